use Rattle.std.proofs.Common.{map, refl}
use Rattle.std.specs.Borrow.{Bor}
use Rattle.sv_audit.proofs.Made.{next_cell}
use Rattle.sv_audit.specs.declared.access.Cell.{Cell}
use Rattle.sv_audit.proofs.groups.different_cells.Goals as goal

pub loop-one-preserved : goal.loop-one-preserved
loop-one-preserved c =
    next_cell c.args.named.now c.loop-one.one-index c.one-item.result c.one-item.result.cell (map (λ (cell : Bor Cell). cell.now) c.loop-one.cells.items) (map (λ (cell : Bor Cell). cell.now) c.push_cell.new.cells.items)
    c.loop-one-test.true c.one-item.is refl c.loop-one.invariant c.in_ok-push_cell.ensures
