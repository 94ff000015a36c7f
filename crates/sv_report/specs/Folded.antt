-- Texts whose lines have at most 100 characters.
use Rattle.std.specs.Prelude.{◌≡◌, ℕ, zero, suc, ◌+◌, Bool, true, not, ◌&&◌, nat_le, ◌==◌, List, [], ◌∷◌, ◌++◌, chars, codes, drop, encode_utf8, length, take, Option, None, Some, if◌then◌else◌}
use Rattle.std.specs.List.{filter, flat_map, list_all, slice_split}
use Rattle.sv_report.specs.declared.folded_lines.TheConstants.{LATER_WIDTH, LINE_WIDTH}

abbrev pub later_or_here : Bool → Option ℕ → Option ℕ
later_or_here is_space None = if is_space then Some 0 else None
later_or_here is_space (Some place) = Some (suc place)

-- The place of the last space.
abbrev pub last_space : List ℕ → Option ℕ
last_space [] = None
last_space (c ∷ cs) = later_or_here (c == 32) (last_space cs)

abbrev pub broken_at : ℕ → List ℕ → Option ℕ → List ℕ × List ℕ
broken_at limit line None = (take limit line, drop limit line)
broken_at limit line (Some place) = (take place line, drop (suc place) line)

-- A line that is longer than the limit breaks at its last space within the limit, which goes, or else at the limit.
abbrev pub broken : ℕ → List ℕ → List ℕ × List ℕ
broken limit line = broken_at limit line (last_space (take (limit + 1) line))

-- The parts of a line, as characters. It breaks at most so many times.
unfoldable pub parts : ℕ → ℕ → List ℕ → List (List ℕ)
parts zero limit line = line ∷ []
parts (suc times) limit line =
    if nat_le (length line) limit then line ∷ []
    else (broken limit line).0 ∷ parts times LATER_WIDTH (broken limit line).1

abbrev pub bytes_of : List ℕ → List ℕ
bytes_of characters = flat_map encode_utf8 characters

-- The parts, each but the first on a line of its own after six spaces.
abbrev pub parts_text : List (List ℕ) → List ℕ
parts_text [] = []
parts_text (part ∷ others) = bytes_of part ++ flat_map (λ other. codes "\n      " ++ bytes_of other) others

abbrev pub line_parts : List ℕ → List (List ℕ)
line_parts line = parts (length line) LINE_WIDTH line

abbrev pub folded_line : List ℕ → List ℕ
folded_line line = parts_text (line_parts (chars line))

abbrev pub joined_lines : List (List ℕ) → List ℕ
joined_lines [] = []
joined_lines (line ∷ others) = folded_line line ++ flat_map (λ other. codes "\n" ++ folded_line other) others

-- The lines of a text, without their line feeds.
abbrev pub lines_of : List ℕ → List (List ℕ)
lines_of text = slice_split (λ b. b == 10) text

-- The text, with each longer line in parts.
unfoldable pub folded : List ℕ → List ℕ
folded text = joined_lines (lines_of text)

abbrev pub fit : List (List ℕ) → Bool
fit [] = true
fit (part ∷ others) = nat_le (length part) LINE_WIDTH && list_all (λ other. nat_le (length (codes "      " ++ other)) LINE_WIDTH) others

-- With its spaces, no line of a folded line has more than 100 characters.
abbrev pub PartsFit : Type 0
PartsFit = (line : List ℕ) → fit (line_parts line) ≡ true

-- The parts have all characters of the line in order; only spaces are missing.
abbrev pub PartsKeepCharacters : Type 0
PartsKeepCharacters = (line : List ℕ) → filter (λ c. not (c == 32)) (flat_map (λ part. part) (line_parts line)) ≡ filter (λ c. not (c == 32)) line
