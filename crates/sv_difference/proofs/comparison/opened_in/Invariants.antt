use Rattle.std.proofs.Common.{◌≡◌, map, take}
use Rattle.sv_difference.specs.ServerDifference as spec
use Rattle.sv_difference.proofs.comparison.opened_in.Given as goal

abbrev pub invariant-loop-context : goal.invariant-loop-context
invariant-loop-context l = map (λ difference. difference.now) l.opened.items ≡ spec.opened_in (take l.context-index l.contexts)
