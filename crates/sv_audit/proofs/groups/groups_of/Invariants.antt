use Rattle.std.proofs.Common.{◌≡◌, map, take}
use Rattle.sv_audit.specs.Rows.{group_with}
use Rattle.sv_audit.proofs.groups.groups_of.Given as goal

abbrev pub invariant-loop-cell : goal.invariant-loop-cell
invariant-loop-cell l = l.groups.items ≡ map (group_with l.named) (map (λ cell. cell.now) (take l.cell-index l.cell-items))
