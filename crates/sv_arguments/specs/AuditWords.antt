-- The names of the forms of a report.
use Rattle.std.specs.Prelude.{◌≡◌, ℕ, List, codes}
use Rattle.sv_audit_command.specs.declared.access_options.Format.{Format}
use Rattle.sv_audit_command.specs.declared.access_options.Format.TheVariants.{Text, Json, Html, Keys}

abbrev pub format_name : Format → List ℕ
format_name Text = codes "text"
format_name Json = codes "json"
format_name Html = codes "html"
format_name Keys = codes "keys"

-- the word is the name of the form
abbrev pub IsFormat : List ℕ → Format → Type 0
IsFormat word format = word ≡ format_name format

-- the word is the name of a form that a report on differences does not have
abbrev pub IsUnfit : List ℕ → Format → Type 0
IsUnfit word Html = IsFormat word Html
IsUnfit word Keys = IsFormat word Keys
IsUnfit word other = ⊥
