-- The page of a report.
use Rattle.std.specs.Prelude.{ℕ, Bool, ◌==◌, List, [], ◌∷◌, codes, filter, length, map, if◌then◌else◌, IsTrue}
use Rattle.std.specs.List.{flat_map}
use Rattle.std.specs.Str.{bytes_eq}
use Rattle.sv_constraints.specs.Covering.{lists}
use Rattle.sv_findings.specs.declared.finding.Finding.{Finding}
use Rattle.sv_uri.specs.ContextPath.{shown_context}
use Rattle.sv_report.specs.FindingWords.{heading, kind_name, problem_text, remedy}
use Rattle.sv_page.specs.HtmlTables.{section_html}
use Rattle.sv_page.specs.LeftOut.{notes_html}
use Rattle.sv_page.specs.Markup.{html_text}
use Rattle.sv_page.specs.Shares.{finding_shares, row_shares}
use Rattle.sv_report.specs.Parts.{joined}
use Rattle.sv_report.specs.Places.{place_text}
use Rattle.sv_page.specs.declared.page.TheConstants.{PAGE_START}
use Rattle.sv_page.specs.declared.ranks.TheConstants.{RANKED_KINDS}
use Rattle.sv_report.specs.declared.report.ContextReport.{ContextReport}
use Rattle.sv_report.specs.declared.report.ReportedFinding.{ReportedFinding}

-- What a finding is, and its place.
abbrev pub located_problem : ContextReport → ReportedFinding → List ℕ
located_problem context reported = html_text (joined (problem_text context.has_login reported.finding ∷ place_text context.file reported.line ∷ []))

-- The item of a finding: its context, what it is and what to write.
unfoldable pub item_html : ContextReport → ReportedFinding → List ℕ
item_html context reported = joined (
    codes "<li class=\"" ∷ heading reported.is_accepted ∷ codes "\"><b>" ∷ heading reported.is_accepted
    ∷ codes "</b> <code>" ∷ html_text (shown_context context.path) ∷ codes "</code> " ∷ located_problem context reported
    ∷ codes "<br>" ∷ html_text (remedy reported.finding) ∷ codes "</li>\n" ∷ [])

abbrev pub is_of_kind : List ℕ → ReportedFinding → Bool
is_of_kind kind reported = bytes_eq (kind_name reported.finding) kind

-- The items of those of these findings of a context that are of the kind.
unfoldable pub kind_items : List ℕ → ContextReport → List ReportedFinding → List ℕ
kind_items kind context findings = flat_map (item_html context) (filter (is_of_kind kind) findings)

-- The items of the findings of one kind that the page lists, in the order of the contexts.
abbrev pub items_of_kind : List ContextReport → List ℕ → List ℕ
items_of_kind contexts kind = flat_map (λ share. kind_items kind share.0 share.1) (finding_shares contexts)

-- The names of all kinds of findings, the most dangerous kind first.
abbrev pub ranked_kinds : List (List ℕ)
ranked_kinds = map (λ kind. kind.now) RANKED_KINDS

-- The items of the findings that the page lists, the most dangerous kind first.
abbrev pub items_html : List ContextReport → List ℕ
items_html contexts = flat_map (items_of_kind contexts) ranked_kinds

-- The kind of each finding has a rank, so each finding that the page lists has its item.
abbrev pub EachKindIsRanked : Type 0
EachKindIsRanked = (finding : Finding) → IsTrue (lists ranked_kinds (kind_name finding))

-- The tables with the rows that the page shows.
abbrev pub tables_html : List ContextReport → List ℕ
tables_html contexts = flat_map (λ share. section_html share.0 share.1) (row_shares contexts)

abbrev pub list_html : List ℕ → List ℕ
list_html items = if length items == 0 then codes "<p>There are no findings.</p>\n" else joined (codes "<ul>\n" ∷ items ∷ codes "</ul>\n" ∷ [])

-- The notes on findings that are not listed, the findings, then the tables.
abbrev pub audit_html : List ContextReport → List ℕ
audit_html contexts = joined (PAGE_START.now ∷ notes_html contexts ∷ list_html (items_html contexts) ∷ tables_html contexts ∷ codes "</body>\n</html>\n" ∷ [])
