-- The name and the password that a form sends (Jakarta Servlet 6.0, section 13.6.3.1).
use Rattle.std.specs.Prelude.{ℕ, List, codes}
use Rattle.sv_login.specs.declared.credentials.Credentials.{Credentials}
use Rattle.sv_message.specs.Parameters.{first_named}

-- The values of the first fields with these names.
abbrev pub credentials_in : List (List ℕ × List ℕ) → Credentials
credentials_in fields = record { name = first_named (codes "j_username") fields; password = first_named (codes "j_password") fields }
