-- Where constraints are.
use Rattle.std.specs.Prelude.{ℕ, ◌-◌, ◌==◌, List, [], ◌∷◌, codes, Option, None, Some, slice_get, if◌then◌else◌}
use Rattle.std.specs.Fmt.{decimal}
use Rattle.sv_report.specs.Escaped.{escaped}
use Rattle.sv_report.specs.Parts.{joined}

abbrev pub known : Option (Option ℕ) → Option ℕ
known None = None
known (Some line) = line

-- The line on which constraint n begins, at place n - 1, if it is known.
abbrev pub line_at : List (Option ℕ) → ℕ → Option ℕ
line_at lines number = if number == 0 then None else known (slice_get lines (number - 1))

abbrev pub line_of : List (Option ℕ) → Option ℕ → Option ℕ
line_of lines None = None
line_of lines (Some number) = line_at lines number

abbrev pub number_text : ℕ → List ℕ
number_text number = decimal number

-- The number of a constraint, and the line on which it begins.
abbrev pub numbered : ℕ → Option ℕ → List ℕ
numbered number None = decimal number
numbered number (Some line) = joined (decimal number ∷ codes ", line " ∷ decimal line ∷ [])

-- The same for a constraint, if there is one.
abbrev pub constraint_text : List (Option ℕ) → Option ℕ → List ℕ
constraint_text lines None = codes "-"
constraint_text lines (Some number) = numbered number (line_at lines number)

-- A place in a file, if its line is known.
abbrev pub place_text : List ℕ → Option ℕ → List ℕ
place_text file None = []
place_text file (Some line) = joined (codes " (" ∷ escaped file ∷ codes ":" ∷ decimal line ∷ codes ")" ∷ [])
