-- What the row of an access table means for paths.
use Rattle.std.specs.Prelude.{ℕ, Bool, ◌||◌, ◌==◌, List, [], ◌∷◌, ◌++◌, codes, length, Option, None, Some, if◌then◌else◌}
use Rattle.std.specs.List.{flat_map}
use Rattle.sv_uri.specs.LocationField.{location}
use Rattle.sv_report.specs.AnswerWords.{elsewhere_text, servlet_text}
use Rattle.sv_report.specs.Parts.{joined}
use Rattle.sv_report.specs.Words.{pattern_text}
use Rattle.sv_audit.specs.declared.narrower_patterns.Narrower.{Narrower}
use Rattle.sv_report.specs.declared.report.ReportedRow.{ReportedRow}

-- The path of a row as a client requests it, with the path of its context.
abbrev pub example_location : List ℕ → Option (List ℕ) → Option (List ℕ)
example_location context None = None
example_location context (Some path) = Some (location (context ++ path))

-- The location of an example.
abbrev pub example_text : Option (List ℕ) → List ℕ
example_text None = []
example_text (Some place) = joined (codes "such as " ∷ place ∷ [])

-- The same, and what answers it.
abbrev pub answered_text : Option (List ℕ) → Option (List ℕ) → List ℕ
answered_text None servlet = []
answered_text (Some place) servlet = joined (codes "such as " ∷ place ∷ codes ", answered by " ∷ servlet_text servlet ∷ [])

abbrev pub other_pattern : List ℕ → List ℕ
other_pattern pattern = joined (codes ", " ∷ pattern_text (Some pattern) ∷ [])

abbrev pub ending : Bool → List ℕ
ending are_all = if are_all then [] else codes ", .."

-- The patterns that are chosen before that of the row (section 12.1).
abbrev pub patterns_text : Bool → List (List ℕ) → List ℕ
patterns_text are_all [] = []
patterns_text are_all (pattern ∷ patterns) = joined (codes "except " ∷ pattern_text (Some pattern) ∷ flat_map other_pattern patterns ∷ ending are_all ∷ [])

abbrev pub exceptions_text : Narrower → List ℕ
exceptions_text narrower = patterns_text narrower.are_all narrower.patterns

abbrev pub between : List ℕ → List ℕ → List ℕ
between first second = if length first == 0 || length second == 0 then [] else codes "; "

-- Two parts, with a semicolon between them if neither is empty.
unfoldable pub both : List ℕ → List ℕ → List ℕ
both first second = joined (first ∷ between first second ∷ second ∷ [])

-- An example and the exceptions.
unfoldable pub paths_text : List ℕ → ReportedRow → List ℕ
paths_text context row = both (example_text (example_location context row.example)) (exceptions_text row.narrower)

-- The example and what answers it.
abbrev pub answered_example : List ℕ → ReportedRow → List ℕ
answered_example context row = answered_text (example_location context row.example) row.servlet

-- An example with what answers it, what answers other paths, and the exceptions.
unfoldable pub detail_text : List ℕ → ReportedRow → List ℕ
detail_text context row = both (both (answered_example context row) (elsewhere_text row.example row.servlet row.answers)) (exceptions_text row.narrower)

abbrev pub indented : List ℕ → List ℕ
indented text = if length text == 0 then text else joined (codes "  " ∷ text ∷ codes "\n" ∷ [])

abbrev pub detail_line : List ℕ → ReportedRow → List ℕ
detail_line context row = indented (detail_text context row)
