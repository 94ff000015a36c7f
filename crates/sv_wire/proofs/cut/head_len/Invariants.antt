use Rattle.std.proofs.Common.{◌≡◌, ℕ, ◌-◌, ◌≤◌, false, length, take}
use Rattle.sv_wire.specs.Head.{ends_head}
use Rattle.sv_wire.proofs.cut.head_len.Given as goal

-- No prefix up to this place ends a head.
abbrev pub invariant-loop-at : goal.invariant-loop-at
invariant-loop-at l = (k : ℕ) → k ≤ l.at → ends_head (take k l.text) ≡ false

abbrev pub decreases-loop-at : goal.decreases-loop-at
decreases-loop-at l = length l.text - l.at
