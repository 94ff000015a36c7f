-- The servlets of mappings, and the rows of patterns.
use Rattle.std.proofs.Common.{◌≡◌, ◌∙◌, ℕ, ◌+◌, ◌<◌, List, [], ◌∷◌, ◌++◌, length, map, get_or, take, ap, subst, sym, Option}
use Rattle.std.proofs.lemmas.List.{append-nil, take_more}
use Rattle.std.proofs.lemmas.List.Concat.{flat_map-append}
use Rattle.sv_descriptor.specs.declared.servlet.ServletMapping.{ServletMapping}
use Rattle.sv_audit.specs.declared.rows.Row.{Row}
use Rattle.sv_report.specs.declared.report.ReportedRow.{ReportedRow}
use Rattle.sv_audit_command.specs.ContextPatterns.{names_of, servlet_names}
use Rattle.sv_audit_command.specs.RowPaths.{reported_row}
use Rattle.sv_audit_command.specs.declared.context_patterns.ContextPatterns.{ContextPatterns}
use Rattle.sv_audit_command.specs.declared.row_answers.AnsweredPaths.{AnsweredPaths}

-- The names of one more mapping.
pub names_more : (mappings : List ServletMapping) (i : ℕ) (mapping : ServletMapping) (before after : List (List ℕ)) (name : List ℕ) (patterns : List (List ℕ))
    → i < length mappings → mapping ≡ get_or mappings i mapping → before ≡ servlet_names (take i mappings) → name ≡ mapping.servlet_name → patterns ≡ mapping.url_patterns
    → after ≡ before ++ map (λ pattern. name) patterns → after ≡ servlet_names (take (i + 1) mappings)
names_more mappings i mapping before after name patterns within is so_far its listed more =
    more
    ∙ (ap (λ front. front ++ map (λ pattern. name) patterns) so_far
    ∙ (ap (λ n. servlet_names (take i mappings) ++ map (λ pattern. n) patterns) its
    ∙ (ap (λ ps. servlet_names (take i mappings) ++ map (λ pattern. mapping.servlet_name) ps) listed
    ∙ (ap (λ m. servlet_names (take i mappings) ++ names_of m) is
    ∙ sym (ap servlet_names (take_more mappings i mapping within)
    ∙ (flat_map-append names_of (take i mappings) (get_or mappings i mapping ∷ [])
    ∙ ap (λ tail. servlet_names (take i mappings) ++ tail) (append-nil (names_of (get_or mappings i mapping)))))))))

-- The same rows of the same answers and patterns.
pub same_rows : (Is : List ReportedRow → Type 0) (patterns : ContextPatterns) (found made : Option AnsweredPaths) (others texts : List (List ℕ)) (reaches : List (List ℕ) × List ℕ) (listed : List (List ℕ)) (nested : List (List ℕ)) (rows : List Row)
    → found ≡ made → others ≡ texts
    → Is (map (reported_row patterns found others reaches listed nested) rows) → Is (map (reported_row patterns made texts reaches listed nested) rows)
same_rows Is patterns found made others texts reaches listed nested rows answers_are others_are is =
    let of_made : Option AnsweredPaths → Type 0 = λ answered. Is (map (reported_row patterns answered texts reaches listed nested) rows) in
    let of_texts : List (List ℕ) → Type 0 = λ found_texts. Is (map (reported_row patterns found found_texts reaches listed nested) rows) in
    subst of_made answers_are (subst of_texts others_are is)
