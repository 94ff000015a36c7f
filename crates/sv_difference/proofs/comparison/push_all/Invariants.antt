use Rattle.std.proofs.Common.{◌≡◌, ◌++◌, map, take}
use Rattle.sv_difference.specs.ServerDifference as spec
use Rattle.sv_difference.proofs.comparison.push_all.Given as goal

abbrev pub invariant-loop-context : goal.invariant-loop-context
invariant-loop-context l = l.found.items ≡ l.initial.found.items ++ map (spec.difference_at l.befores l.afters) (spec.paths_of (take l.context-index l.befores))
