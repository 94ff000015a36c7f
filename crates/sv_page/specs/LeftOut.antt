-- The notes on findings that a page does not list, and on those that are not looked for.
use Rattle.std.specs.Prelude.{ℕ, ◌==◌, List, [], ◌∷◌, ◌++◌, codes, length, if◌then◌else◌}
use Rattle.std.specs.List.{flat_map}
use Rattle.sv_uri.specs.ContextPath.{shown_context}
use Rattle.sv_page.specs.Markup.{html_text}
use Rattle.sv_page.specs.Shares.{finding_shares}
use Rattle.sv_findings.specs.declared.unsearched.Unsearched.{Unsearched}
use Rattle.sv_report.specs.FindingWords.{unsearched_text}
use Rattle.sv_report.specs.Parts.{joined}
use Rattle.sv_report.specs.Places.{number_text}
use Rattle.sv_page.specs.declared.shares.TheConstants.{MAX_LISTED_FINDINGS}
use Rattle.sv_report.specs.declared.report.ContextReport.{ContextReport}
use Rattle.sv_report.specs.declared.report.ReportedFinding.{ReportedFinding}

unfoldable pub none_listed : List ℕ → ℕ → List ℕ
none_listed path count = joined (
    codes "<p>None of the " ∷ number_text count ∷ codes " findings of <code>" ∷ html_text path
    ∷ codes "</code> are listed: the page lists " ∷ number_text MAX_LISTED_FINDINGS ∷ codes " findings at most.</p>\n" ∷ [])

unfoldable pub first_listed : List ℕ → ℕ → ℕ → List ℕ
first_listed path listed count = joined (
    codes "<p>Only the first " ∷ number_text listed ∷ codes " of " ∷ number_text count ∷ codes " findings of <code>" ∷ html_text path ∷ codes "</code> are listed.</p>\n" ∷ [])

-- A note if not all findings of a context are listed, given how many are listed and how many there are.
abbrev pub left_out_html : List ℕ → ℕ → ℕ → List ℕ
left_out_html path listed count = if listed == count then [] else if listed == 0 then none_listed path count else first_listed path listed count

-- The note on findings that are not looked for in the context with this path.
unfoldable pub unsearched_html : List ℕ → Unsearched → List ℕ
unsearched_html path kind = joined (codes "<p>Not looked for in <code>" ∷ html_text path ∷ codes "</code>: " ∷ unsearched_text kind ∷ codes ".</p>\n" ∷ [])

-- The notes on a context of which these findings are listed.
unfoldable pub note_of : ContextReport → List ReportedFinding → List ℕ
note_of context findings =
    left_out_html (shown_context context.path) (length findings) (length context.findings)
    ++ flat_map (unsearched_html (shown_context context.path)) context.unsearched

-- The notes on all contexts.
abbrev pub notes_html : List ContextReport → List ℕ
notes_html contexts = flat_map (λ share. note_of share.0 share.1) (finding_shares contexts)
