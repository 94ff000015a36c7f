-- The accounts of a realm (Jakarta Servlet 6.0 section 13.6).
use Rattle.std.specs.Prelude.{◌≡◌, ℕ, Bool, false, List, map, Option, None, Some}
use Rattle.std.specs.List.{enumerate_from}
use Rattle.sv_realm.specs.declared.account.Account.{Account}
use Rattle.sv_realm.specs.declared.account.User.{User}
use Rattle.sv_realm.specs.Realm.{caller_of}
use Rattle.sv_realm.specs.User.{fits}

-- The account of a user with this number.
abbrev pub account_of : ℕ × User → Account
account_of member = record { caller = caller_of member; salt = member.1.salt; digest = member.1.digest }

-- The user of an account.
abbrev pub user_of : Account → User
user_of account = record {
  name = account.caller.name;
  salt = account.salt;
  digest = account.digest;
  roles = account.caller.roles;
}

-- The accounts are those of their users, numbered by position from 0.
abbrev pub AreNumbered : List Account → Type 0
AreNumbered accounts = accounts ≡ map account_of (enumerate_from 0 (map user_of accounts))

-- A password fits an account if there is one and the password fits its user.
abbrev pub account_fits : Option Account → List ℕ → Bool
account_fits None password = false
account_fits (Some account) password = fits (user_of account) password
