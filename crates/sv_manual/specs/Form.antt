-- Characters of the help, of manual pages and of Markdown.
use Rattle.std.specs.Prelude.{ℕ, ◌==◌, List, [], ◌∷◌, chars, codes, flat_map, encode_utf8_all, if◌then◌else◌}
use Rattle.std.specs.Str.{byte}
use Rattle.sv_manual.specs.declared.form.Form.{Form}
use Rattle.sv_manual.specs.declared.form.Form.TheVariants.{Help, Roff, Markdown}

-- a line feed, and the spaces before the descriptions of options
abbrev pub further_line : List ℕ
further_line = codes "\n                            "

-- a further line of the description of an option begins below the first
abbrev pub help_char : ℕ → List ℕ
help_char c = if c == byte "\n" then further_line else c ∷ []

-- a backslash begins an escape, a hyphen is an option's, and quotation marks are those that a user types; no line begins
-- with a character that roff reads as a command
abbrev pub roff_char : ℕ → List ℕ
roff_char c =
    if c == byte "\\" then codes "\\e"
    else if c == byte "-" then codes "\\-"
    else if c == byte "'" then codes "\\(aq"
    else if c == byte "`" then codes "\\(ga"
    else if c == byte "\n" then codes "\n\\&"
    else c ∷ []

-- a further line belongs to the item of a list
abbrev pub item_char : ℕ → List ℕ
item_char c = if c == byte "\n" then codes "\n  " else c ∷ []

abbrev pub escaped_char : Form → ℕ → List ℕ
escaped_char Help c = help_char c
escaped_char Roff c = roff_char c
escaped_char Markdown c = item_char c

-- a text, character by character
unfoldable pub escaped : Form → List ℕ → List ℕ
escaped form text = encode_utf8_all (flat_map (escaped_char form) (chars text))
