use Rattle.std.proofs.Common.{◌≡◌, map, take}
use Rattle.sv_difference.specs.Differences as spec
use Rattle.sv_difference.proofs.row_differences.groups_at.Given as goal

abbrev pub invariant-loop-row : goal.invariant-loop-row
invariant-loop-row l = map (λ group. group.now) l.groups.items ≡ spec.groups_at (take l.row-index l.rows) l.pattern
