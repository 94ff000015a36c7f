use Rattle.std.proofs.Common.{◌≡◌, ◌++◌, map, take}
use Rattle.std.specs.List.{flat_map}
use Rattle.sv_difference.specs.Differences as spec
use Rattle.sv_difference.proofs.row_differences.push_at.Given as goal

abbrev pub invariant-loop-first : goal.invariant-loop-first
invariant-loop-first l = l.found.items ≡ l.initial.found.items ++ flat_map (λ first. flat_map (spec.between l.logins l.meeting first) (map (λ second. second.now) l.seconds.items)) (map (λ first. first.now) (take l.first-index l.first-items))
