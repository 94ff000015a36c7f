-- How much of contexts a page shows.
use Rattle.std.specs.Prelude.{◌≡◌, ℕ, ◌-◌, ◌≤◌, List, [], ◌∷◌, length, map, take}
use Rattle.std.specs.List.{flat_map}
use Rattle.sv_page.specs.declared.shares.TheConstants.{MAX_LISTED_FINDINGS, MAX_SHOWN_ROWS}
use Rattle.sv_report.specs.declared.report.ContextReport.{ContextReport}
use Rattle.sv_report.specs.declared.report.ReportedFinding.{ReportedFinding}
use Rattle.sv_report.specs.declared.report.ReportedRow.{ReportedRow}

-- Each context with the first of its items. So many are left for it and the contexts after it.
abbrev pub shares : {A : Type 0} → (ContextReport → List A) → ℕ → List ContextReport → List (ContextReport × List A)
shares items left [] = []
shares items left (context ∷ contexts) = (context, take left (items context)) ∷ shares items (left - length (items context)) contexts

-- The rows of each context that a page shows.
abbrev pub row_shares : List ContextReport → List (ContextReport × List ReportedRow)
row_shares contexts = shares (λ context. context.rows) MAX_SHOWN_ROWS contexts

-- The findings of each context that a page lists.
abbrev pub finding_shares : List ContextReport → List (ContextReport × List ReportedFinding)
finding_shares contexts = shares (λ context. context.findings) MAX_LISTED_FINDINGS contexts

-- All that is shown.
abbrev pub shown : {A : Type 0} → List (ContextReport × List A) → List A
shown its_shares = flat_map (λ share. share.1) its_shares

-- A page shows so many rows at most.
abbrev pub ShowsFewRows : Type 0
ShowsFewRows = (contexts : List ContextReport) → length (shown (row_shares contexts)) ≤ MAX_SHOWN_ROWS

-- It shows the first rows of all contexts together.
abbrev pub ShowsFirstRows : Type 0
ShowsFirstRows = (contexts : List ContextReport) → shown (row_shares contexts) ≡ take MAX_SHOWN_ROWS (flat_map (λ context. context.rows) contexts)

-- It shows all rows of each context if there are no more.
abbrev pub ShowsAllRows : Type 0
ShowsAllRows = (contexts : List ContextReport) → length (flat_map (λ context. context.rows) contexts) ≤ MAX_SHOWN_ROWS → row_shares contexts ≡ map (λ context. (context, context.rows)) contexts

-- The same of findings.
abbrev pub ListsFewFindings : Type 0
ListsFewFindings = (contexts : List ContextReport) → length (shown (finding_shares contexts)) ≤ MAX_LISTED_FINDINGS

abbrev pub ListsFirstFindings : Type 0
ListsFirstFindings = (contexts : List ContextReport) → shown (finding_shares contexts) ≡ take MAX_LISTED_FINDINGS (flat_map (λ context. context.findings) contexts)

abbrev pub ListsAllFindings : Type 0
ListsAllFindings =
    (contexts : List ContextReport) → length (flat_map (λ context. context.findings) contexts) ≤ MAX_LISTED_FINDINGS → finding_shares contexts ≡ map (λ context. (context, context.findings)) contexts
