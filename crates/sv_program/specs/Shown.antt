-- A value as TOML writes it, on one line (TOML 1.0, "Strings", "Integer" and "Boolean").
use Rattle.std.specs.Prelude.{ℕ, ◌/◌, ◌%◌, Bool, true, ◌||◌, ◌==◌, nat_lt, List, [], ◌∷◌, ◌++◌, codes, chars, encode_utf8, length, take, flat_map, Option, Some, None, if◌then◌else◌}
use Rattle.std.specs.Char.{is_control}
use Rattle.std.specs.Fmt.{digit_glyph, signed_decimal}
use Rattle.std.specs.Str.{byte}
use Rattle.toml.specs.Data.{Data, string, integer, boolean}
use Rattle.sv_program.specs.declared.limits.TheConstants.{MAX_SHOWN_CHARACTERS}

-- the letter of a two-character escape, or 0 if there is none
abbrev pub escape_letter : ℕ → ℕ
escape_letter c =
    if c == 8 then byte "b"
    else if c == 9 then byte "t"
    else if c == 10 then byte "n"
    else if c == 12 then byte "f"
    else if c == 13 then byte "r"
    else if c == byte "\"" then c
    else if c == byte "\\" then c
    else 0

-- a backslash and the letter, if there is one, or else `\u00` and two hexadecimal digits
abbrev pub escape_text : ℕ → List ℕ
escape_text c =
    if escape_letter c == 0 then codes "\\u00" ++ digit_glyph true (c / 16) ∷ digit_glyph true (c % 16) ∷ []
    else codes "\\" ++ escape_letter c ∷ []

-- a character that a basic string cannot contain unescaped, or that a line should not contain
abbrev pub is_escaped : ℕ → Bool
is_escaped c = is_control c || (c == byte "\"" || c == byte "\\")

-- the character itself, or its escape
abbrev pub character_text : ℕ → List ℕ
character_text c = if is_escaped c then escape_text c else encode_utf8 c

-- the character itself, or its escape if it is a control character
abbrev pub line_character : ℕ → List ℕ
line_character c = if is_control c then escape_text c else encode_utf8 c

-- a key as it is printed: control characters are escaped
abbrev pub printed_key : List ℕ → List ℕ
printed_key key = flat_map line_character (chars key)

-- the mark after a text that is cut
abbrev pub cut_mark : List ℕ → List ℕ
cut_mark characters = if nat_lt MAX_SHOWN_CHARACTERS (length characters) then codes ".." else codes ""

-- the first characters of a text as a basic string
abbrev pub quoted_characters : List ℕ → List ℕ
quoted_characters characters = codes "\"" ++ flat_map character_text (take MAX_SHOWN_CHARACTERS characters) ++ codes "\"" ++ cut_mark characters

-- a text as a basic string
abbrev pub quoted : List ℕ → List ℕ
quoted text = quoted_characters (chars text)

abbrev pub truth_text : Bool → List ℕ
truth_text holds = if holds then codes "true" else codes "false"

-- texts, integers and booleans are shown
abbrev pub shown : Data → Option (List ℕ)
shown (string text) = Some (quoted text)
shown (integer number) = Some (signed_decimal number)
shown (boolean holds) = Some (truth_text holds)
shown other = None
