use Rattle.std.proofs.Common.{◌≡◌, ℕ, ◌-◌, ◌<◌, false, length, take, drop}
use Rattle.sv_wire.specs.Head.{ends_head}
use Rattle.sv_wire.specs.Next.{weight}
use Rattle.sv_wire.proofs.ReadingLemmas.{HasRead}
use Rattle.sv_wire.proofs.read_items.read_items.Given as goal

abbrev pub invariant-loop-start : goal.invariant-loop-start
invariant-loop-start l =
    HasRead l.stream l.items.items l.body l.at × ((k : ℕ) → k < l.from → ends_head (take k (drop l.at l.stream)) ≡ false)

abbrev pub decreases-loop-start : goal.decreases-loop-start
decreases-loop-start l = weight l.body (length l.stream - l.at)
