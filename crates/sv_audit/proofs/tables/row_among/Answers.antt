use Rattle.std.proofs.Common.{[], map, ap, sym, ◌∙◌}
use Rattle.std.specs.Borrow.{Bor}
use Rattle.sv_constraints.specs.declared.constraint.Constraint.{Constraint}
use Rattle.sv_audit.specs.Access.{asking}
use Rattle.sv_audit.proofs.Made.{gives_along, row_of_all}
use Rattle.sv_audit.specs.Rows.{row_for}
use Rattle.sv_audit.proofs.tables.row_among.Goals as goal

pub returns-in-Some : goal.returns-in-Some
returns-in-Some c = λ constraints are.
    gives_along c.focused_row.result (row_for (asking c.args.whose) (map (λ (member : Bor Constraint). member.now) c.as_slice.result.now) c.args.rules.now c.args.pattern.now) (row_for (asking c.args.whose) constraints c.args.rules.now c.args.pattern.now)
    (row_of_all (asking c.args.whose) constraints (map (λ (member : Bor Constraint). member.now) c.as_slice.result.now) c.args.rules.now c.args.pattern.now (ap (map (λ (member : Bor Constraint). member.now)) c.as_slice.ensures.value ∙ c.in-Some.ensures constraints are)) c.focused_row.ensures

pub returns-in-None : goal.returns-in-None
returns-in-None c = λ constraints are.
    gives_along c.row_for.result (row_for (asking c.args.whose) [] c.args.rules.now c.args.pattern.now) (row_for (asking c.args.whose) constraints c.args.rules.now c.args.pattern.now)
    (row_of_all (asking c.args.whose) constraints [] c.args.rules.now c.args.pattern.now (sym (c.in-None.ensures constraints are))) c.row_for.ensures
