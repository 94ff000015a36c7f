-- Names that are near to a misspelled word.
use Rattle.std.specs.Prelude.{ℕ, List, [], length, chars, nat_eq, Option, None}
use Rattle.std.specs.Option.{option_or}
use Rattle.std.specs.List.{find}
use Rattle.strsim.specs.Edits.{levenshtein_row}

-- the Levenshtein distance, in characters
abbrev pub distance : List ℕ → List ℕ → ℕ
distance one other = levenshtein_row nat_eq (chars one) (chars other) (length (chars other))

-- the first name at this distance from the word
abbrev pub name_at : ℕ → List (List ℕ) → List ℕ → Option (List ℕ)
name_at away names word = find (λ name. nat_eq (distance name word) away) names

-- the first of the nearest names, if they are at most two edits away; no name is near to the empty word
abbrev pub near : List (List ℕ) → List ℕ → Option (List ℕ)
near names [] = None
near names word = option_or (name_at 0 names word) (option_or (name_at 1 names word) (name_at 2 names word))
