use Rattle.std.proofs.Common.{◌≡◌, map, take}
use Rattle.sv_audit.specs.Rows.{different_cells}
use Rattle.sv_audit.proofs.groups.different_cells.Given as goal

abbrev pub invariant-loop-one : goal.invariant-loop-one
invariant-loop-one l = map (λ cell. cell.now) l.cells.items ≡ different_cells (take l.one-index l.named)
