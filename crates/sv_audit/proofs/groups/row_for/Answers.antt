use Rattle.std.proofs.Common.{map, ap, not, ◌∙◌}
use Rattle.std.specs.Borrow.{Bor}
use Rattle.std.specs.Prelude.{filter}
use Rattle.sv_constraints.specs.declared.constraint.Constraint.{Constraint}
use Rattle.sv_audit.specs.Access.{asking}
use Rattle.sv_audit.specs.Rows.{groups_of}
use Rattle.sv_audit.specs.Same.{same_cell}
use Rattle.sv_audit.specs.declared.rows.NamedCell.{NamedCell}
use Rattle.sv_audit.proofs.IndexLemmas.{indexed_cells}
use Rattle.sv_audit.proofs.Made.{row_made}
use Rattle.sv_audit.proofs.groups.row_for.Goals as goal

pub returns : goal.returns
returns c =
    row_made (asking c.args.whose) (map (λ (member : Bor Constraint). member.now) c.args.members.now) c.args.rules.now c.in_ok-copy_of.field-0 c.args.pattern.now (map (λ (member : Bor Constraint). member.now) c.as_slice.result.now) c.in_ok-others.others c.in_ok-named.named.items c.in_ok-groups_of.field-0
    c.in_ok-copy_of.ensures (ap (map (λ (member : Bor Constraint). member.now)) c.as_slice.ensures.value ∙ c.in_ok-unnamed.ensures) (c.in_ok-others.ensures c.args.pattern.now)
    (c.in_ok-named.ensures
    ∙ ap (filter (λ (one : NamedCell). not (same_cell one.cell c.in_ok-others.others))) (indexed_cells (asking c.args.whose) (map (λ (member : Bor Constraint). member.now) c.args.members.now) c.args.rules.now c.args.pattern.now c.in_ok-index.index c.in_ok-index.ensures))
    (c.in_ok-groups_of.ensures ∙ ap (λ named. groups_of named c.in_ok-others.others) c.as_slice-2.ensures.value)
