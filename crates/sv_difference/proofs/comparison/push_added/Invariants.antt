use Rattle.std.proofs.Common.{◌≡◌, ◌++◌, map, take}
use Rattle.std.specs.Prelude.{filter, is_none}
use Rattle.sv_difference.specs.ServerDifference as spec
use Rattle.sv_difference.proofs.comparison.push_added.Given as goal

abbrev pub invariant-loop-context : goal.invariant-loop-context
invariant-loop-context l =
    l.found.items ≡ l.initial.found.items ++ map (spec.difference_at l.befores l.afters) (filter (λ path. is_none (spec.context_at l.befores path)) (spec.paths_of (take l.context-index l.afters)))
