-- Checking the password of a user (Jakarta Servlet 6.0 section 13.6; SHA-256 by FIPS 180-4 section 6.2).
use Rattle.std.specs.Prelude.{ℕ, Bool, ◌&&◌, List, ◌++◌}
use Rattle.std.specs.Str.{bytes_eq}
use Rattle.sha2.specs.Sha256.{sha256}
use Rattle.sv_realm.specs.declared.account.User.{User}

-- Whether the digest is the SHA-256 of the salt followed by the password.
abbrev pub fits : User → List ℕ → Bool
fits user password = bytes_eq (sha256 (user.salt ++ password)) user.digest

-- Whether two users have the same salt and digest.
abbrev pub has_same_password : User → User → Bool
has_same_password user other = bytes_eq user.salt other.salt && bytes_eq user.digest other.digest
