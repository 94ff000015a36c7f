-- What answers the paths of a row, in words (Jakarta Servlet 6.0, section 12.1).
use Rattle.std.specs.Prelude.{ℕ, not, List, [], ◌∷◌, ◌++◌, codes, filter, map, Option, None, Some, if◌then◌else◌}
use Rattle.std.specs.List.{flat_map}
use Rattle.std.specs.Str.{bytes_eq}
use Rattle.sv_report.specs.Escaped.{escaped}
use Rattle.sv_report.specs.Parts.{joined}
use Rattle.sv_report.specs.declared.report.Answers.{Answers}

-- What answers a path: a servlet, or files.
abbrev pub servlet_text : Option (List ℕ) → List ℕ
servlet_text None = codes "files"
servlet_text (Some name) = joined (codes "servlet " ∷ escaped name ∷ [])

-- All answers: each servlet, then files.
abbrev pub answer_texts : Answers → List (List ℕ)
answer_texts answers = map (λ name. servlet_text (Some name)) answers.servlets ++ (if answers.has_files then servlet_text None ∷ [] else [])

-- The answers but this one.
abbrev pub other_texts : List ℕ → List (List ℕ) → List (List ℕ)
other_texts one texts = filter (λ text. not (bytes_eq text one)) texts

-- Texts, separated by commas, after these words; nothing without texts.
abbrev pub listed : List ℕ → List (List ℕ) → List ℕ
listed words [] = []
listed words (text ∷ texts) = joined (words ∷ text ∷ flat_map (λ other. codes ", " ++ other) texts ∷ [])

-- What answers paths other than the example, given what answers the example; without an example, all answers.
abbrev pub elsewhere_text : Option (List ℕ) → Option (List ℕ) → Option Answers → List ℕ
elsewhere_text example servlet None = []
elsewhere_text None servlet (Some answers) = listed (codes "answered by ") (answer_texts answers)
elsewhere_text (Some path) servlet (Some answers) = listed (codes "elsewhere by ") (other_texts (servlet_text servlet) (answer_texts answers))

-- All answers; if they are not listed, that of the example, which may not be all.
abbrev pub answers_text : Option (List ℕ) → Option (List ℕ) → Option Answers → List ℕ
answers_text example servlet (Some answers) = listed [] (answer_texts answers)
answers_text None servlet None = []
answers_text (Some path) servlet None = joined (servlet_text servlet ∷ codes ", .." ∷ [])
