use Rattle.std.proofs.Common.{◌≡◌, length}
use Rattle.std.specs.Vec.Iter.{into_iter_items, into_iter_len}
use Rattle.sv_session.specs.Slots.{living}
use Rattle.sv_session.proofs.ended_sessions.next_living.Given as goal

abbrev pub invariant-loop-slot : goal.invariant-loop-slot
invariant-loop-slot l =
    (living (into_iter_items l.slots) ≡ living (into_iter_items l.initial.slots)) × (into_iter_len l.slots ≡ length (into_iter_items l.slots))

abbrev pub decreases-loop-slot : goal.decreases-loop-slot
decreases-loop-slot l = into_iter_len l.slots
