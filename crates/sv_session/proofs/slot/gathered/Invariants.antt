use Rattle.std.proofs.Common.{◌≡◌, map, take, filter}
use Rattle.sv_session.specs.Slots.{due_of}
use Rattle.sv_session.proofs.slot.gathered.Given as goal

abbrev pub invariant-loop-slot : goal.invariant-loop-slot
invariant-loop-slot l = l.queue ≡ map due_of (filter (λ slot. slot.live) (take l.slot-index l.slots))
