use Rattle.std.proofs.Common.{map, ap, ap₂, ◌∙◌, [], ◌∷◌, ◌++◌}
use Rattle.std.specs.Borrow.{Bor}
use Rattle.std.proofs.lemmas.List.{take_all}
use Rattle.sv_constraints.specs.declared.constraint.Methods.TheVariants.{Except}
use Rattle.sv_audit.specs.Rows.{group_with, groups_of}
use Rattle.sv_audit.specs.declared.access.Cell.{Cell}
use Rattle.sv_audit.proofs.Made.{group_made}
use Rattle.sv_audit.proofs.groups.groups_of.Goals as goal

pub returns : goal.returns
unfolding groups_of
returns c =
    c.from_vec.ensures ∙ c.in_ok-push-2.ensures.items
    ∙ ap₂ (λ xs names. xs ++ group_made (Except names) c.args.others ∷ [])
    (c.loop-cell.invariant ∙ ap (λ cells. map (group_with c.args.named.now) (map (λ (cell : Bor Cell). cell.now) cells)) (take_all c.loop-cell.cell-index c.as_slice-cell-items.result.now c.loop-cell-test.false ∙ c.as_slice-cell-items.ensures.value)
    ∙ ap (map (group_with c.args.named.now)) c.in_ok-different_cells.ensures)
    c.in_ok-names_of.ensures
