use Rattle.std.proofs.Common.{◌≡◌, ◌+◌, ◌≤◌, ◌++◌, length, map, vec_capacity}
use Rattle.sv_context.proofs.several.push_parts.Given as goal

abbrev pub decreases-loop-undeployed : goal.decreases-loop-undeployed
decreases-loop-undeployed g l = length l.waiting.items

abbrev pub invariant-loop-undeployed : goal.invariant-loop-undeployed
invariant-loop-undeployed g l = record {
  moved : l.parts.items ++ map (λ deployment. deployment.parts) l.waiting.items
      ≡ l.fn.parts.items ++ map (λ deployment. deployment.parts) l.fn.back.items;
  room : length l.parts.items + length l.waiting.items ≤ vec_capacity l.parts;
}
