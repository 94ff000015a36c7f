-- Texts without control characters.
use Rattle.std.specs.Prelude.{ℕ, ◌/◌, ◌%◌, ◌==◌, false, List, [], ◌∷◌, ◌++◌, chars, codes, encode_utf8, if◌then◌else◌}
use Rattle.std.specs.Char.{is_control}
use Rattle.std.specs.Fmt.{digit_glyph}
use Rattle.std.specs.List.{flat_map}
use Rattle.std.specs.Str.{byte}

-- `\x` and two hexadecimal digits.
abbrev pub escape_text : ℕ → List ℕ
escape_text c = codes "\\x" ++ digit_glyph false (c / 16) ∷ digit_glyph false (c % 16) ∷ []

-- The character itself, or its escape.
abbrev pub character_text : ℕ → List ℕ
character_text c =
    if is_control c then escape_text c
    else if c == byte "\\" then codes "\\\\"
    else encode_utf8 c

-- The text with each control character escaped, and each backslash doubled.
unfoldable pub escaped : List ℕ → List ℕ
escaped text = flat_map character_text (chars text)
