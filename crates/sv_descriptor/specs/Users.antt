-- The users file: names, salted digests of passwords, and roles.
use Rattle.std.specs.Prelude.{◌≡◌, ◌≤◌, ℕ, List, [], ◌∷◌, length, map, codes, Vec, Result, Ok, Err}
use Rattle.std.specs.declared.alloc.Global.{Global}
use Rattle.std.specs.List.{All}
use Rattle.toml.specs.Data.{Members}
use Rattle.sv_realm.specs.declared.account.User.{User}
use Rattle.sv_descriptor.specs.Document.{document}
use Rattle.sv_text.specs.Steps.{◌>>=◌, ◌>>◌}
use Rattle.sv_descriptor.specs.Fault.{Located, Reads, without_place}
use Rattle.sv_descriptor.specs.ListOf.{list_of_texts, list_of_tables}
use Rattle.sv_descriptor.specs.Table.{only_keys, required}
use Rattle.sv_descriptor.specs.Value.{name, hex_text, text_of}
use Rattle.sv_descriptor.specs.declared.limits.TheConstants.{MAX_LIST_ITEMS}
use Rattle.sv_descriptor.specs.Names.{distinct, Differ}
use Rattle.sv_descriptor.specs.declared.limits.TheConstants.{DIGEST_BYTES, DIGEST_DIGITS, MAX_SALT_DIGITS}

abbrev pub user : Members → Located User
user table = do
  only_keys (codes "name" ∷ codes "salt" ∷ codes "digest" ∷ codes "roles" ∷ []) [] table
  its_name ← required (text_of name) (codes "name") table
  its_salt ← required (text_of (hex_text 0 MAX_SALT_DIGITS)) (codes "salt") table
  its_digest ← required (text_of (hex_text DIGEST_DIGITS DIGEST_DIGITS)) (codes "digest") table
  its_roles ← required (list_of_texts 0 MAX_LIST_ITEMS name) (codes "roles") table
  Ok (record { name = its_name; salt = its_salt; digest = its_digest; roles = its_roles })

abbrev pub user_names : List User → List (List ℕ)
user_names = map (λ user. user.name)

abbrev pub users : Members → Located (List User)
users table = do
  only_keys (codes "user" ∷ []) [] table
  its_users ← required (list_of_tables 0 MAX_LIST_ITEMS user) (codes "user") table
  distinct (codes "user") (codes "name") (user_names its_users)
  Ok its_users

-- The users listed in a text, or the first fault with its place.
unfoldable pub located_users : List ℕ → Located (List User)
located_users = document users

-- The users listed in a text.
abbrev pub users_of : List ℕ → Reads (List User)
users_of text = without_place (located_users text)

-- The users as a list.
abbrev pub seen : {E : Type 0} → Result (Vec User Global) E → Result (List User) E
seen (Ok users) = Ok users.items
seen (Err e) = Err e

-- The properties of users that were read.
pub record AreWellFormedUsers (found : List User) : Type 0 where
  pub few : length found ≤ MAX_LIST_ITEMS
  pub digests_are_whole : All (λ user. length user.digest ≡ DIGEST_BYTES) found
  pub names_differ : Differ (user_names found)
