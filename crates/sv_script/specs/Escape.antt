-- Bytes as texts of a script. A byte that is not plain is written with a backslash.
use Rattle.std.specs.Prelude.{◌≡◌, ℕ, ◌+◌, ◌*◌, ◌/◌, ◌%◌, ◌<◌, Bool, true, ◌==◌, ◌&&◌, nat_le, List, [], ◌∷◌, ◌++◌, codes, length, flat_map, Option, Some, None, if◌then◌else◌}
use Rattle.std.specs.Char.{digit_value, is_digit}
use Rattle.std.specs.Fmt.{digit_glyph}
use Rattle.std.specs.Option.{option_map, option_and_then}
use Rattle.std.specs.Str.{byte}

abbrev pub carriage_return : ℕ
carriage_return = 13

abbrev pub line_feed : ℕ
line_feed = 10

-- a byte that is printed as it is
abbrev pub is_plain : ℕ → Bool
is_plain b = nat_le 32 b && nat_le b 126

-- `\xHH`
abbrev pub hex_text : ℕ → List ℕ
hex_text b = codes "\\x" ++ digit_glyph true (b / 16) ∷ digit_glyph true (b % 16) ∷ []

-- the text of a byte
abbrev pub byte_text : ℕ → List ℕ
byte_text b =
    if b == carriage_return then codes "\\r"
    else if b == line_feed then codes "\\n"
    else if b == byte "\\" then codes "\\\\"
    else if is_plain b then b ∷ []
    else hex_text b

-- the text of bytes
abbrev pub escaped : List ℕ → List ℕ
escaped bytes = flat_map byte_text bytes

-- the value of a hexadecimal digit, of either case
abbrev pub hex_digit : ℕ → Option ℕ
hex_digit b = if is_digit b 16 then Some (digit_value b) else None

-- the byte of two digits
abbrev pub hex_byte : ℕ → ℕ → Option ℕ
hex_byte high low = option_and_then (λ h. option_map (λ l. 16 * h + l) (hex_digit low)) (hex_digit high)

-- the byte that a backslash and this letter mean, if any
abbrev pub named_byte : ℕ → Option ℕ
named_byte letter =
    if letter == byte "r" then Some carriage_return
    else if letter == byte "n" then Some line_feed
    else if letter == byte "\\" then Some (byte "\\")
    else None

-- this byte followed by the bytes
abbrev pub preceded : ℕ → Option (List ℕ) → Option (List ℕ)
preceded b bytes = option_map (λ behind. b ∷ behind) bytes

-- the byte, if there is one, followed by the bytes
abbrev pub preceded_by : Option ℕ → Option (List ℕ) → Option (List ℕ)
preceded_by first bytes = option_and_then (λ b. preceded b bytes) first

-- a byte that begins no `\xHH`, and the next byte, with the meaning of the text after the first and after both
abbrev pub begun : ℕ → ℕ → Option (List ℕ) → Option (List ℕ) → Option (List ℕ)
begun b next behind_one behind_two =
    if b == byte "\\" then preceded_by (named_byte next) behind_two else preceded b behind_one

-- the bytes that a text means, none if a backslash in it begins none of `\r`, `\n`, `\\` and `\xHH`
unfoldable pub unescaped : List ℕ → Option (List ℕ)
unescaped [] = Some []
unescaped (b ∷ []) = if b == byte "\\" then None else Some (b ∷ [])
unescaped (b ∷ next ∷ high ∷ low ∷ rest) =
    if b == byte "\\" && next == byte "x"
    then preceded_by (hex_byte high low) (unescaped rest)
    else begun b next (unescaped (next ∷ high ∷ low ∷ rest)) (unescaped (high ∷ low ∷ rest))
unescaped (b ∷ next ∷ rest) = begun b next (unescaped (next ∷ rest)) (unescaped rest)

-- the text means this byte followed by the meaning of the shorter rest
abbrev pub Begins : List ℕ → ℕ → List ℕ → Type 0
Begins text b rest = (unescaped text ≡ preceded b (unescaped rest)) × (length rest < length text)
