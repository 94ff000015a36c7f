use Rattle.std.proofs.Common.{◌≡◌, ◌++◌, map, take}
use Rattle.std.specs.List.{flat_map}
use Rattle.sv_difference.specs.Differences as spec
use Rattle.sv_difference.proofs.row_differences.push_against.Given as goal

abbrev pub invariant-loop-second : goal.invariant-loop-second
invariant-loop-second l = l.found.items ≡ l.initial.found.items ++ flat_map (spec.between l.logins l.meeting l.first) (map (λ second. second.now) (take l.second-index l.seconds))
