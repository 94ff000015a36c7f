-- Texts in HTML.
use Rattle.std.specs.Prelude.{◌≡◌, ℕ, Bool, false, ◌||◌, ◌==◌, List, codes, encode_utf8, chars, if◌then◌else◌}
use Rattle.std.specs.Char.{is_control}
use Rattle.std.specs.List.{flat_map, list_any}
use Rattle.std.specs.Str.{byte}
use Rattle.sv_report.specs.Escaped.{escape_text}

-- The character itself, or the escape of a control character.
abbrev pub other_character : ℕ → List ℕ
other_character c = if is_control c then escape_text c else encode_utf8 c

-- The reference of a character that has a meaning in HTML, or the character.
abbrev pub html_character : ℕ → List ℕ
html_character c =
    if c == byte "&" then codes "&amp;"
    else if c == byte "<" then codes "&lt;"
    else if c == byte ">" then codes "&gt;"
    else if c == byte "\"" then codes "&quot;"
    else if c == byte "'" then codes "&#39;"
    else other_character c

-- The text as the content of an element or the value of an attribute.
unfoldable pub html_text : List ℕ → List ℕ
html_text text = flat_map html_character (chars text)

-- Whether a byte is an angle bracket or a quote.
abbrev pub is_markup : ℕ → Bool
is_markup b = b == byte "<" || b == byte ">" || b == byte "\"" || b == byte "'"

-- No text can end an element or the value of an attribute.
abbrev pub IsPlain : Type 0
IsPlain = (text : List ℕ) → list_any is_markup (html_text text) ≡ false
