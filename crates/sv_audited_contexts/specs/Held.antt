-- The roles that the users of a context have (Jakarta Servlet 6.0, section 13.3).
use Rattle.std.specs.Prelude.{ℕ, List, [], take, Option, None, Some}
use Rattle.std.specs.List.{flat_map}
use Rattle.std.specs.Option.{option_map_or}
use Rattle.sv_realm.specs.Realm.{caller_at}
use Rattle.sv_realm.specs.declared.account.User.{User}
use Rattle.sv_realm.specs.declared.realm.TheConstants.{MAX_USERS}

-- The roles of the user with this number.
abbrev pub roles_at : List User → ℕ → List (List ℕ)
roles_at users number = option_map_or (λ caller. caller.roles) (caller_at users number) []

-- The roles of all users, of which a realm has at most so many.
abbrev pub held_roles : List User → List (List ℕ)
held_roles users = flat_map (λ user. user.roles) (take MAX_USERS users)

-- The roles of the users, if the context names a users file.
abbrev pub held_in : Option (List ℕ) → List User → Option (List (List ℕ))
held_in None users = None
held_in (Some name) users = Some (held_roles users)
