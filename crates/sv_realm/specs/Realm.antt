-- The callers of a realm, given as the list of its users (Jakarta Servlet 6.0 sections 13.3 and 13.6).
use Rattle.std.specs.Prelude.{ℕ, List, Option, find, slice_get, option_and_then}
use Rattle.std.specs.Bool.{then_some}
use Rattle.std.specs.List.{enumerate_from}
use Rattle.std.specs.Option.{option_map}
use Rattle.std.specs.Str.{bytes_eq}
use Rattle.sv_realm.specs.declared.caller.Caller.{Caller}
use Rattle.sv_realm.specs.declared.account.User.{User}
use Rattle.sv_realm.specs.User.{fits, has_same_password}

-- The caller for a user with this number.
abbrev pub caller_of : ℕ × User → Caller
caller_of (number, user) = record { number = number; name = user.name; roles = user.roles }

-- The first user with a name, and their position.
abbrev pub user_named : List User → List ℕ → Option (ℕ × User)
user_named users name = find (λ member. bytes_eq member.1.name name) (enumerate_from 0 users)

-- The caller of the first user with a name.
abbrev pub caller_named : List User → List ℕ → Option Caller
caller_named users name = option_map caller_of (user_named users name)

-- The caller of the first user with a name, if the password fits that user.
abbrev pub caller_checked : List User → List ℕ → List ℕ → Option Caller
caller_checked users name password =
    option_and_then (λ member. then_some (fits member.1 password) (caller_of member)) (user_named users name)

-- The caller of the user at a position.
abbrev pub caller_at : List User → ℕ → Option Caller
caller_at users number = option_map (λ user. caller_of (number, user)) (slice_get users number)

-- The number of the first user who has the name of an earlier realm's user, if salt and digest are the same.
abbrev pub same_user : List User → User → Option ℕ
same_user users before =
    option_and_then (λ caller.
    option_and_then (λ user. then_some (has_same_password user before) caller.number) (slice_get users caller.number))
    (caller_named users before.name)

-- The number of the user who is still the user of an earlier realm with that number.
abbrev pub successor : List User → List User → ℕ → Option ℕ
successor users earlier number = option_and_then (same_user users) (slice_get earlier number)
