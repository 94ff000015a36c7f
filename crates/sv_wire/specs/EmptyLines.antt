-- The empty lines before a request line, which a server ignores (RFC 9112, section 2.2).
use Rattle.std.specs.Prelude.{ℕ, Bool, ◌&&◌, ◌||◌, List, [], ◌∷◌, ◌==◌, slice_index, if◌then◌else◌}
use Rattle.httparse.specs.Ascii.{line_feed, carriage_return}

-- Whether a byte belongs to an empty line: it is LF, or CR before LF.
abbrev pub is_of_empty_line : ℕ → List ℕ → Bool
is_of_empty_line b next = b == line_feed || (b == carriage_return && slice_index next 0 == line_feed)

-- The text after the empty lines at its start.
abbrev pub drop_empty_lines : List ℕ → List ℕ
drop_empty_lines [] = []
drop_empty_lines (b ∷ text) = if is_of_empty_line b text then drop_empty_lines text else b ∷ text
