use Rattle.std.proofs.Common.{List, ◌≡◌, map, ap, rules, ◌∙◌}
use Rattle.std.specs.Borrow.{Bor}
use Rattle.sv_constraints.specs.declared.constraint.Constraint.{Constraint}
use Rattle.sv_audit.specs.Access.{asking}
use Rattle.sv_audit.proofs.FocusLemmas.{row_focused}
use Rattle.sv_audit.proofs.Made.{gives_along}
use Rattle.sv_audit.specs.Rows.{row_for}
use Rattle.sv_audit.proofs.tables.focused_row.Goals as goal

abbrev seen : List (Bor Constraint) → List Constraint
seen members = map (λ (member : Bor Constraint). member.now) members

pub returns : goal.returns
returns c =
    let are : seen c.in_ok-borrowed.borrowed.items ≡ c.in_ok-copies.copies.items = search rules in
    gives_along c.row_for.result (row_for (asking c.args.whose) (seen c.as_slice.result.now) c.args.rules.now c.args.pattern.now) (row_for (asking c.args.whose) (seen c.args.members.now) c.args.rules.now c.args.pattern.now)
    (ap (λ members. row_for (asking c.args.whose) members c.args.rules.now c.args.pattern.now) (ap seen c.as_slice.ensures.value ∙ are ∙ c.in_ok-copies.ensures) ∙ row_focused c.args.pattern.now (asking c.args.whose) (seen c.args.members.now) c.args.rules.now)
    c.row_for.ensures
