use Rattle.std.proofs.Common.{◌≡◌, length}
use Rattle.sv_policy.specs.Resuming.{append_each}
use Rattle.sv_policy.proofs.resuming.append_each.Given as goal

abbrev pub decreases-loop-constraint : goal.decreases-loop-constraint
decreases-loop-constraint l = length l.waiting.items

abbrev pub invariant-loop-constraint : goal.invariant-loop-constraint
invariant-loop-constraint l = append_each l.policy l.waiting.items ≡ append_each l.fn.policy l.fn.constraints.items
