-- The bytes read are cut after an empty line (RFC 9112, sections 2.1 and 2.2). So a head ends only with the last
-- byte of a piece. Two messages may end in one piece: if a body is awaited, its last bytes may precede a whole head.
-- `sv_listening` says how little a piece completes.
use Rattle.std.specs.Prelude.{◌≡◌, ℕ, ◌+◌, ◌-◌, ◌<◌, ◌==◌, ◌&&◌, ◌||◌, Bool, false, List, length, slice_index}

-- A line begins at this place: it is the first, or a line feed precedes it.
abbrev pub begins_line : List ℕ → ℕ → Bool
begins_line bytes place = place == 0 || slice_index bytes (place - 1) == 10

-- A carriage return at this place begins a line.
abbrev pub is_lone_return : List ℕ → ℕ → Bool
is_lone_return bytes place = slice_index bytes place == 13 && begins_line bytes place

-- An empty line ends at this place: with a line feed that begins a line, or that follows a carriage return that begins
-- one.
abbrev pub ends_empty_line : List ℕ → ℕ → Bool
ends_empty_line bytes place =
    slice_index bytes place == 10 && (begins_line bytes place || is_lone_return bytes (place - 1))

-- At least one byte, and no empty line ends before the last.
abbrev pub IsPiece : List ℕ → Type 0
IsPiece bytes = (0 < length bytes) × ((place : ℕ) → place + 1 < length bytes → ends_empty_line bytes place ≡ false)
