-- A place in a text, as an editor counts it.
use Rattle.std.specs.Prelude.{ℕ, ◌+◌, Bool, not, ◌||◌, List, nat_eq, nat_lt}
use Rattle.std.specs.List.{after_last, count_by}

abbrev pub ends_line : ℕ → Bool
ends_line byte = nat_eq byte 10

-- the first byte of a character in UTF-8; the further bytes are from 128 to 191
abbrev pub begins_character : ℕ → Bool
begins_character byte = nat_lt byte 128 || not (nat_lt byte 192)

-- the line of the place after these bytes, from 1
abbrev pub line_behind : List ℕ → ℕ
line_behind before = count_by ends_line before + 1

-- its column, from 1: the number of characters after the last line feed, plus one
abbrev pub column_behind : List ℕ → ℕ
column_behind before = count_by begins_character (after_last ends_line before) + 1
