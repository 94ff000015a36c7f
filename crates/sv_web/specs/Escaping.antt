-- Texts in pages (HTML Standard, sections 13.1.4 and 13.3).
use Rattle.std.specs.Prelude.{ℕ, ◌==◌, List, [], ◌∷◌, chars, codes, flat_map, encode_utf8_all, if◌then◌else◌}
use Rattle.std.specs.Str.{byte}

-- a character as a page writes it
abbrev pub escaped_char : ℕ → List ℕ
escaped_char c =
    if c == byte "&" then codes "&amp;"
    else if c == byte "<" then codes "&lt;"
    else if c == byte ">" then codes "&gt;"
    else if c == byte "\"" then codes "&quot;"
    else if c == byte "'" then codes "&#39;"
    else c ∷ []

-- a text as a page writes it, character by character
unfoldable pub html_escaped : List ℕ → List ℕ
html_escaped text = encode_utf8_all (flat_map escaped_char (chars text))
