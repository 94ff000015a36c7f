-- Access tables in HTML.
use Rattle.std.specs.Prelude.{ℕ, Bool, ◌==◌, List, [], ◌∷◌, codes, length, Option, if◌then◌else◌}
use Rattle.std.specs.List.{flat_map}
use Rattle.sv_uri.specs.ContextPath.{shown_context}
use Rattle.sv_page.specs.HtmlCells.{cell_html, foreign_cell, hidden_cell, row_html, unanswered_row}
use Rattle.sv_page.specs.Markup.{html_text}
use Rattle.sv_report.specs.Parts.{joined}
use Rattle.sv_report.specs.Places.{number_text}
use Rattle.sv_report.specs.Text.{has_tls}
use Rattle.sv_report.specs.Viewers.{viewer_title}
use Rattle.sv_page.specs.declared.shares.TheConstants.{MAX_SHOWN_ROWS}
use Rattle.sv_report.specs.declared.report.ContextReport.{ContextReport}
use Rattle.sv_report.specs.declared.report.ReportedRow.{ReportedRow}
use Rattle.sv_report.specs.declared.report.Viewer.{Viewer}

unfoldable pub heading_of : List ℕ → List ℕ → List ℕ
heading_of path file = joined (codes "<section>\n<h2><code>" ∷ html_text path ∷ codes "</code> <small>" ∷ html_text file ∷ codes "</small></h2>\n" ∷ [])

abbrev pub heading_html : ContextReport → List ℕ
heading_html context = heading_of (shown_context context.path) context.file

abbrev pub title_html : Option Viewer → List ℕ
title_html viewer = joined (
    codes "<div class=\"table\">\n<table>\n<tr><th scope=\"col\">pattern</th><th scope=\"col\">answered by</th><th scope=\"col\">" ∷ html_text (viewer_title viewer) ∷ codes "</th></tr>\n" ∷ [])

-- The protected folders (sections 10.5 and 10.6).
abbrev pub hidden_html : Option Viewer → List ℕ
hidden_html viewer = unanswered_row (codes "/WEB-INF/*, /META-INF/*") (hidden_cell viewer)

-- The login post of a form login (section 13.6.3.1).
abbrev pub login_html : Bool → List ℕ
login_html has_login =
    if has_login then unanswered_row (codes "*/j_security_check") (cell_html (codes "post") (codes "POST") (codes "login post") (codes "The container answers the login form (section 13.6.3.1)."))
    else []

-- The paths of another context within the one with this path (section 12.1).
abbrev pub foreign_html : List ℕ → List ℕ → List ℕ
foreign_html context other = unanswered_row (joined (html_text other ∷ codes "/*" ∷ [])) (foreign_cell (joined (context ∷ other ∷ [])))

abbrev pub other_rows : ContextReport → List ℕ
other_rows context = joined (hidden_html context.viewer ∷ login_html context.has_login ∷ flat_map (foreign_html context.path) context.others ∷ [])

-- A note if some requests need TLS.
abbrev pub transport_html : ContextReport → List ℕ
transport_html context = if has_tls context then codes "<p>Some requests need TLS: --secure shows who enters then, and its findings.</p>\n" else []

abbrev pub none_shown : ℕ → List ℕ
none_shown count = joined (codes "<p>None of its " ∷ number_text count ∷ codes " rows are shown: the page shows " ∷ number_text MAX_SHOWN_ROWS ∷ codes " rows at most.</p>\n" ∷ [])

abbrev pub first_shown : ℕ → ℕ → List ℕ
first_shown shown count = joined (codes "<p>Only the first " ∷ number_text shown ∷ codes " of " ∷ number_text count ∷ codes " rows are shown.</p>\n" ∷ [])

-- A note if not all rows are shown, given how many are shown and how many there are.
abbrev pub note_html : ℕ → ℕ → List ℕ
note_html shown count = if shown == count then [] else if shown == 0 then none_shown count else first_shown shown count

-- The part on a context: its path, its file, and its table with these rows.
unfoldable pub section_html : ContextReport → List ReportedRow → List ℕ
section_html context rows = joined (
    heading_html context ∷ title_html context.viewer ∷ flat_map (row_html context) rows ∷ other_rows context
    ∷ codes "</table>\n</div>\n" ∷ transport_html context ∷ note_html (length rows) (length context.rows) ∷ codes "</section>\n" ∷ [])
