use Rattle.std.proofs.Common.{List, Option, Some, ap, ap₂, ◌∙◌}
use Rattle.sv_realm.specs.declared.caller.Caller.{Caller}
use Rattle.sv_constraints.specs.declared.constraint.Constraint.{Constraint}
use Rattle.sv_audit.specs.Rows.{table_for}
use Rattle.sv_audit.specs.Visitors.{known}
use Rattle.sv_audit.specs.declared.rows.Table.{Table}
use Rattle.sv_audit_command.proofs.shown_rows.viewer_rows.Goals as goal

pub returns : goal.returns
returns c =
    let table_of_visitor : Option Caller → List Constraint → Table = λ visitor constraints. table_for (λ access. visitor) constraints c.args.context.now.rules in
    ap (λ (table : Table). table.rows)
    (c.in_ok-table.ensures ∙ ap₂ table_of_visitor (c.known.ensures ∙ ap (λ (caller : Caller). known c.args.context.now.has_login (Some caller)) c.in_ok-caller.ensures) c.as_slice.ensures)
