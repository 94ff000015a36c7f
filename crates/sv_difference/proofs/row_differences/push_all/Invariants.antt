use Rattle.std.proofs.Common.{◌≡◌, ◌++◌, map, take}
use Rattle.sv_difference.proofs.row_differences.push_all.Given as goal

abbrev pub invariant-loop-group : goal.invariant-loop-group
invariant-loop-group l = map (λ group. group.now) l.groups.items ≡ map (λ group. group.now) l.initial.groups.items ++ take l.group-index l.others
