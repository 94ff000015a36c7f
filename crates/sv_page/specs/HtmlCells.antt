-- The cells of access tables in HTML.
use Rattle.std.specs.Prelude.{ℕ, List, [], ◌∷◌, codes, Option}
use Rattle.std.specs.List.{flat_map}
use Rattle.sv_audit.specs.declared.rows.Group.{Group}
use Rattle.sv_page.specs.CellWords.{class_for, explanation, reason}
use Rattle.sv_report.specs.AnswerWords.{answers_text}
use Rattle.sv_report.specs.Details.{paths_text}
use Rattle.sv_page.specs.Markup.{html_text}
use Rattle.sv_report.specs.Parts.{joined}
use Rattle.sv_report.specs.Viewers.{context_text, entry_text, hidden_text, unmatched_text}
use Rattle.sv_report.specs.Words.{methods_text, pattern_text}
use Rattle.sv_report.specs.declared.report.ContextReport.{ContextReport}
use Rattle.sv_report.specs.declared.report.ReportedRow.{ReportedRow}
use Rattle.sv_report.specs.declared.report.Viewer.{Viewer}
use Rattle.sv_findings.specs.declared.reach.Reach.{Reach}
use Rattle.sv_findings.specs.declared.reach.Reach.TheVariants.{Reached, Hidden, Elsewhere, Unmatched}

-- A cell in the color of its class: the methods and who may use them, and why.
unfoldable pub cell_html : List ℕ → List ℕ → List ℕ → List ℕ → List ℕ
cell_html class methods who why = joined (
    codes "<details class=\"" ∷ class ∷ codes "\"><summary><b>" ∷ html_text methods ∷ codes "</b> " ∷ html_text who
    ∷ codes "</summary>" ∷ html_text why ∷ codes "</details>" ∷ [])

-- Why the cell of a group is as it is.
unfoldable pub why_text : ContextReport → Group → List ℕ
why_text context group = explanation context.lines (reason context.has_login group.cell.access) group.cell.constraint

-- The cell of a group of methods.
unfoldable pub group_html : ContextReport → Group → List ℕ
group_html context group = cell_html
    (class_for context.viewer context.has_login group.cell.access)
    (methods_text group.methods)
    (entry_text context.viewer context.has_login group.cell.access)
    (why_text context group)

-- A row of HTML: a pattern with what it means for paths, what answers it, and cells.
unfoldable pub row_of : List ℕ → List ℕ → List ℕ → List ℕ → List ℕ
row_of pattern details answers cells = joined (
    codes "<tr><th scope=\"row\"><code>" ∷ pattern ∷ codes "</code><small>" ∷ details ∷ codes "</small></th><td class=\"by\">" ∷ answers
    ∷ codes "</td><td>" ∷ cells ∷ codes "</td></tr>\n" ∷ [])

-- A row without an example and without answers.
abbrev pub unanswered_row : List ℕ → List ℕ → List ℕ
unanswered_row pattern cell = row_of pattern [] [] cell

-- The cell of folders that are never served (sections 10.5 and 10.6).
abbrev pub hidden_cell : Option Viewer → List ℕ
hidden_cell viewer = cell_html (codes "hidden") (codes "all") (hidden_text viewer) (codes "The container never serves these folders (sections 10.5 and 10.6).")

-- The cell of paths that belong to the context with this path (section 12.1).
abbrev pub foreign_cell : List ℕ → List ℕ
foreign_cell path = cell_html (codes "hidden") (codes "all") (context_text path) (codes "Another context answers these paths (section 12.1).")

-- The cell of a pattern that is the best match of no canonical path (sections 3.5.2 and 12.1).
abbrev pub unmatched_cell : List ℕ
unmatched_cell = cell_html (codes "hidden") (codes "all") unmatched_text (codes "The pattern is the best match of no canonical path (sections 3.5.2 and 12.1).")

abbrev pub reached_html : ContextReport → ReportedRow → List ℕ → List ℕ
reached_html context reported pattern = row_of
    pattern
    (html_text (paths_text context.path reported))
    (html_text (answers_text reported.example reported.servlet reported.answers))
    (flat_map (group_html context) reported.row.groups)

-- The row of a pattern: with an example, its exceptions, what answers it and a cell for each group of methods, or with the reason why no request meets it.
abbrev pub reach_html : ContextReport → ReportedRow → Reach → List ℕ → List ℕ
reach_html context reported Reached pattern = reached_html context reported pattern
reach_html context reported Hidden pattern = unanswered_row pattern (hidden_cell context.viewer)
reach_html context reported (Elsewhere path) pattern = unanswered_row pattern (foreign_cell path)
reach_html context reported Unmatched pattern = unanswered_row pattern unmatched_cell

unfoldable pub row_html : ContextReport → ReportedRow → List ℕ
row_html context reported = reach_html context reported reported.reach (html_text (pattern_text reported.row.pattern))
