use Rattle.std.proofs.Common.{◌≡◌, ◌++◌, map}
use Rattle.std.specs.Vec.Iter.{into_iter_items}
use Rattle.sv_program.specs.UncoveredCommand as spec
use Rattle.sv_program.proofs.uncovered_command.without_users.Given as goal

abbrev pub invariant-loop-context : goal.invariant-loop-context
invariant-loop-context l = (l.bare.items ≡ map spec.without_users l.yielded) × (l.yielded ++ into_iter_items l.context-iterator ≡ l.fn.contexts)
