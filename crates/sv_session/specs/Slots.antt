-- The sessions as stored: in slots, in the order of their numbers. The slot of an ended session is empty.
use Rattle.std.specs.Prelude.{◌≡◌, ℕ, ◌<◌, ◌≤◌, true, List, [], ◌∷◌, length, map, find, Option, None, Some, slice_index_or, if◌then◌else◌}
use Rattle.std.specs.Option.{option_map}
use Rattle.sv_session.specs.declared.due.Due.{Due}
use Rattle.sv_session.specs.Order.{Waiting}
use Rattle.sv_session.specs.declared.ids.Ids.{Ids}
use Rattle.sv_session.specs.declared.slot.Slot.{Slot}
use Rattle.sv_session.specs.declared.limits.TheConstants.{GREATEST_SERIAL}
use Rattle.sv_session.specs.Ids.{IdsDiffer, number_in}
use Rattle.sv_session.specs.Store.{Session, has_id}

-- The live sessions.
abbrev pub living : List Slot → List Session
living [] = []
living (slot ∷ slots) = if slot.live then slot.kept ∷ living slots else living slots

-- The record in the queue at the index of a slot.
abbrev pub due_of : Slot → Option Due
due_of slot = if slot.live then Some (record { last_access = slot.kept.last_access; number = slot.kept.number }) else None

-- The numbers of the slots increase strictly. All are above the first bound and at most the second.
abbrev pub SlotsRise : ℕ → ℕ → List Slot → Type 0
SlotsRise low high [] = low ≤ high
SlotsRise low high (slot ∷ slots) = (low < slot.kept.number) × SlotsRise slot.kept.number high slots

-- The live session of the number is at this index.
abbrev pub IsPlace : ℕ → List Slot → ℕ → Type 0
IsPlace number slots place =
    (place < length slots) × ((d : Slot) → ((slice_index_or slots place d).live ≡ true) × ((slice_index_or slots place d).kept.number ≡ number))

-- Exactly the slots before this index have lower numbers.
abbrev pub IsFirstFrom : ℕ → List Slot → ℕ → Type 0
IsFirstFrom number slots place = (k : ℕ) (d : Slot) → k < length slots
    → (k < place → (slice_index_or slots k d).kept.number < number) × (place ≤ k → number ≤ (slice_index_or slots k d).kept.number)

-- The number of the session with an id.
abbrev pub number_among : List Session → List ℕ → Option ℕ
number_among sessions id = option_map (λ session. session.number) (find (has_id id) sessions)

-- Numbers increase up to the serial, and ids differ. The index holds the number of each live session, and the queue its
-- last access. The count is that of the live sessions.
pub record AreKept (serial count : ℕ) (slots : List Slot) (ids : Ids) (queue : Waiting) : Type 0 where
  pub fits : serial ≤ GREATEST_SERIAL
  pub rise : SlotsRise 0 serial slots
  pub differ : IdsDiffer serial (living slots)
  pub named : (id : List ℕ) → number_in ids id ≡ number_among (living slots) id
  pub wait : queue ≡ map due_of slots
  pub counted : count ≡ length (living slots)
