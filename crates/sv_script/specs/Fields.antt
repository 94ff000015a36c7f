-- The fields of a line: texts with single blanks between them, some of them numbers.
use Rattle.std.specs.Prelude.{ℕ, ◌+◌, ◌^◌, Bool, ◌==◌, ◌&&◌, nat_lt, List, length, take, drop, position, Option, Some, None, if◌then◌else◌}
use Rattle.std.specs.Option.{option_map}
use Rattle.std.specs.Char.{is_ascii_digit}
use Rattle.std.specs.List.{list_all}
use Rattle.std.specs.Str.{byte, is_utf8}
use Rattle.std.specs.Str.Parse.{digits_value}

-- the text before the first blank and the text after it, if there is a blank
abbrev pub at_blank : List ℕ → Option (List ℕ × List ℕ)
at_blank text = option_map (λ place. (take place text, drop (place + 1) text)) (position (λ b. b == byte " ") text)

-- the bytes as a text, if they are UTF-8
abbrev pub text_of : List ℕ → Option (List ℕ)
text_of bytes = if is_utf8 bytes then Some bytes else None

-- one or more decimal digits of a number that fits 64 bits
abbrev pub is_number : List ℕ → Bool
is_number text = list_all is_ascii_digit text && nat_lt 0 (length text) && nat_lt (digits_value 10 text) (2 ^ 64)

-- the number that the text denotes
abbrev pub number : List ℕ → Option ℕ
number text = if is_number text then Some (digits_value 10 text) else None
