-- Bytes as texts of a log, so that no client can forge a part of a line. The escape is that of nginx.
use Rattle.std.specs.Prelude.{ℕ, ◌/◌, ◌%◌, ◌==◌, Bool, not, ◌&&◌, nat_le, List, [], ◌∷◌, ◌++◌, codes, flat_map, true, if◌then◌else◌}
use Rattle.std.specs.Fmt.{digit_glyph}
use Rattle.std.specs.Str.{byte}
use Rattle.sv_access_log.specs.declared.escaping.Place.{Place}
use Rattle.sv_access_log.specs.declared.escaping.Place.TheVariants.{Word, Quoted, Json}

-- Printable ASCII.
abbrev pub is_printable : ℕ → Bool
is_printable b = nat_le 32 b && nat_le b 126

abbrev pub is_plain : ℕ → Bool
is_plain b = is_printable b && not (b == byte "\\")

-- Whether a byte is written unchanged.
abbrev pub is_shown : Place → ℕ → Bool
is_shown Word b = is_plain b && not (b == byte "\"") && not (b == byte " ")
is_shown Quoted b = is_plain b && not (b == byte "\"")
is_shown Json b = is_plain b

-- `\xHH`, with two capital hexadecimal digits.
abbrev pub hex_text : ℕ → List ℕ
hex_text b = codes "\\x" ++ digit_glyph true (b / 16 % 16) ∷ digit_glyph true (b % 16) ∷ []

abbrev pub byte_text : Place → ℕ → List ℕ
byte_text place b = if is_shown place b then b ∷ [] else hex_text b

abbrev pub escaped : Place → List ℕ → List ℕ
escaped place bytes = flat_map (byte_text place) bytes
