-- Reading the lengths of a body in order (RFC 9110, section 8.6).
use Rattle.std.specs.Prelude.{ℕ, List, ◌==◌, if◌then◌else◌, Option, None, Some}
use Rattle.std.specs.Str.Parse.{digits_value}
use Rattle.httparse.specs.Grammar.{trim_ows}
use Rattle.sv_message.specs.declared.length.Lengths.{Lengths}
use Rattle.sv_message.specs.declared.length.Lengths.TheVariants.{Nothing, Same, Bad}
use Rattle.sv_message.specs.Length.{is_length}

-- The length that a text gives, if it is one.
abbrev pub length_of : List ℕ → Option ℕ
length_of text = if is_length text then Some (digits_value 10 text) else None

-- The state after one more text, which gives a length or none.
abbrev pub next_length : Lengths → Option ℕ → Lengths
next_length Nothing None = Bad
next_length Nothing (Some number) = Same number
next_length (Same seen) None = Bad
next_length (Same seen) (Some number) = if number == seen then Same seen else Bad
next_length Bad other = Bad

-- The state after one more part of a list.
abbrev pub length_with : Lengths → List ℕ → Lengths
length_with seen part = next_length seen (length_of (trim_ows part))
