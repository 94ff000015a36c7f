use Rattle.std.proofs.Common.{◌∙◌, ℕ, List, ap, ap₂, subst}
use Rattle.sv_text.specs.Gives.{GivesAnswer}
use Rattle.sv_constraints.specs.Covering.{all_patterns}
use Rattle.sv_audit_command.specs.RowPaths.{reported_rows}
use Rattle.sv_audit_command.proofs.context_reports.rows_in.Goals as goal

pub returns : goal.returns
returns c =
    let of_reaches : List (List ℕ) × List ℕ → Type 0 = λ reaches. GivesAnswer c.reported_rows.result (reported_rows c.args.patterns.now reaches c.in_ok-of-2.field-0 c.args.nested.now c.args.rows) in
    let of_listed : List (List ℕ) → Type 0 = λ listed.
    GivesAnswer c.reported_rows.result (reported_rows c.args.patterns.now (c.args.context.now.surroundings.contexts, c.args.context.now.surroundings.path) listed c.args.nested.now c.args.rows) in
    subst of_listed (c.in_ok-of-2.ensures ∙ ap all_patterns c.as_slice-2.ensures)
    (subst of_reaches (c.in_ok-of.ensures ∙ ap₂ (λ (paths : List (List ℕ)) (path : List ℕ). (paths, path)) c.as_slice.ensures c.as_str.ensures) c.reported_rows.ensures)
