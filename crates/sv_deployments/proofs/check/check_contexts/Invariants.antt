use Rattle.std.proofs.Common.{◌≡◌, ◌++◌, map, flat_map}
use Rattle.std.specs.Vec.Iter.{into_iter_items}
use Rattle.sv_deployments.specs.Check.{checked_context, context_faults}
use Rattle.sv_deployments.proofs.check.check_contexts.Given as goal

-- the contexts passed so far were checked
abbrev pub invariant-loop-context : goal.invariant-loop-context
invariant-loop-context l =
    (l.checked.items ≡ map checked_context l.yielded) × (l.faults.items ≡ flat_map context_faults l.yielded)
    × (l.yielded ++ into_iter_items l.context-iterator ≡ l.fn.contexts)
