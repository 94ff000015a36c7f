use Rattle.std.proofs.Common.{◌≡◌, take}
use Rattle.sv_difference.specs.ServerDifference as spec
use Rattle.sv_difference.proofs.comparison.paths_of.Given as goal

abbrev pub invariant-loop-context : goal.invariant-loop-context
invariant-loop-context l = l.paths.items ≡ spec.paths_of (take l.context-index l.contexts)
