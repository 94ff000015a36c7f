-- The lines that report findings: what each is, and what to write.
use Rattle.std.specs.Prelude.{ℕ, List, [], ◌∷◌, codes}
use Rattle.sv_findings.specs.declared.unsearched.Unsearched.{Unsearched}
use Rattle.sv_report.specs.FindingWords.{heading, problem_text, remedy, unsearched_text}
use Rattle.sv_report.specs.Parts.{joined}
use Rattle.sv_report.specs.Places.{place_text}
use Rattle.sv_report.specs.declared.report.ContextReport.{ContextReport}
use Rattle.sv_report.specs.declared.report.ReportedFinding.{ReportedFinding}

-- The lines of a finding, with its place.
abbrev pub finding_lines : ContextReport → ReportedFinding → List ℕ
finding_lines context reported = joined (
    heading reported.is_accepted ∷ codes ": " ∷ problem_text context.has_login reported.finding ∷ place_text context.file reported.line
    ∷ codes "\n  " ∷ remedy reported.finding ∷ codes "\n" ∷ [])

-- The line on findings that are not looked for.
unfoldable pub unsearched_line : Unsearched → List ℕ
unsearched_line kind = joined (codes "not looked for: " ∷ unsearched_text kind ∷ codes "\n" ∷ [])
