-- The parts of a request that a login reads (Jakarta Servlet 6.0, section 13.6.3.1).
use Rattle.std.specs.Prelude.{ℕ, Bool, ◌&&◌, ◌==◌, List, Option, None, Some, codes}
use Rattle.std.specs.List.{ends_with}
use Rattle.std.specs.Option.{option_map}
use Rattle.std.specs.Str.{bytes_eq}
use Rattle.sv_realm.specs.declared.account.User.{User}
use Rattle.sv_realm.specs.Realm.{caller_checked}
use Rattle.sv_message.specs.Form.{form_parameters}
use Rattle.sv_message.specs.Parameters.{first_named}

-- The parts of a request that decide a login. The path is that within the context.
pub record Post : Type 0 where
  pub method : List ℕ
  pub path : List ℕ
  pub content_type : Option (List ℕ)
  pub body : List ℕ

abbrev pub post_of : List ℕ → List ℕ → Option (List ℕ) → List ℕ → Post
post_of method path content_type body = record { method = method; path = path; content_type = content_type; body = body }

-- Whether the request is a login post.
abbrev pub is_login : Post → Bool
is_login post = bytes_eq post.method (codes "POST") && ends_with (λ a b. a == b) post.path (codes "/j_security_check")

-- The value of the first field with this name.
abbrev pub sent : List ℕ → Post → Option (List ℕ)
sent name post = first_named name (form_parameters post.method post.content_type post.body)

-- The number of the user that the name and the password fit; none if either is missing.
abbrev pub user_of : List User → Option (List ℕ) → Option (List ℕ) → Option ℕ
user_of users (Some name) (Some password) = option_map (λ caller. caller.number) (caller_checked users name password)
user_of users name password = None

-- The number of the user whose name and password were sent.
abbrev pub user_sent : List User → Post → Option ℕ
user_sent users post = user_of users (sent (codes "j_username") post) (sent (codes "j_password") post)
