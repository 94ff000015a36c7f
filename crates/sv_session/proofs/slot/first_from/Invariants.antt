use Rattle.std.proofs.Common.{ℕ, ◌<◌, ◌≤◌, ◌-◌, length, get_or}
use Rattle.sv_session.specs.declared.slot.Slot.{Slot}
use Rattle.sv_session.specs.Slots.{SlotsRise}
use Rattle.sv_session.proofs.slot.first_from.Given as goal

abbrev pub invariant-loop-low : goal.invariant-loop-low
invariant-loop-low l =
    (l.low ≤ l.high) × (l.high ≤ length l.slots) × ((bound : ℕ) → SlotsRise 0 bound l.slots → (k : ℕ) (d : Slot) → k < length l.slots
    → (k < l.low → (get_or l.slots k d).kept.number < l.number) × (l.high ≤ k → l.number ≤ (get_or l.slots k d).kept.number))

abbrev pub decreases-loop-low : goal.decreases-loop-low
decreases-loop-low l = l.high - l.low
