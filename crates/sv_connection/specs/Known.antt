-- The connections of the table, by their numbers.
use Rattle.std.specs.Prelude.{◌≡◌, ◌≢◌, ℕ, ◌+◌, ◌<◌, Bool, IsSome, false, true, List, [], cond, length, ltb, min, nat_eq, Option, None, Some, Result, Ok, Err}
use Rattle.std.specs.Map.{lookup}
use Rattle.sv_connection.specs.Slots.{Accepted, Open, Over, Slot, Unused, fresh}
use Rattle.sv_connection.specs.States.{ConnectionState}
use Rattle.sv_connection.specs.declared.limits.Limits.{Limits}
use Rattle.sv_run.specs.declared.limits.TheConstants.{MAX_CONNECTIONS}
use Rattle.sv_text.specs.declared.no_memory.NoMemory.{NoMemory}

-- The limits, which stay, the next number, the stream that was accepted under it, if any, and the states of the open
-- connections.
pub record Known (S : Type 0) : Type 0 where
  pub limits : Limits
  pub next : ℕ
  pub accepted : Option S
  pub entries : List (ℕ × ConnectionState S)

-- The most connections that may be open.
abbrev pub most_open : Limits → ℕ
most_open limits = min limits.connections MAX_CONNECTIONS

module _ {S : Type 0} where
  -- No connection is open or accepted, and these numbers were used.
  abbrev pub none_left : Limits → ℕ → Known S
  none_left limits next = record { limits = limits; next = next; accepted = None; entries = [] }

  abbrev pub found : Known S → ℕ → Option (ConnectionState S)
  found known number = lookup (nat_eq number) known.entries

  abbrev pub held_or_over : Option (ConnectionState S) → Slot S
  held_or_over None = Over
  held_or_over (Some at) = Open at

  abbrev pub accepted_or_unused : Option S → Slot S
  accepted_or_unused None = Unused
  accepted_or_unused (Some stream) = Accepted stream

  -- The slot of a number.
  abbrev pub place_in : Known S → ℕ → Slot S
  place_in known number =
      cond (ltb number known.next) (held_or_over (found known number)) (cond (nat_eq number known.next) (accepted_or_unused known.accepted) Unused)

  -- The numbers of these connections are below the next one.
  abbrev pub AreBelow : ℕ → List (ℕ × ConnectionState S) → Type 0
  AreBelow next entries = (number : ℕ) → IsSome (lookup (nat_eq number) entries) → number < next

  -- Only the slot of this number may change.
  pub record OthersStay (number : ℕ) (before after : Known S) : Type 0 where
    pub limits : after.limits ≡ before.limits
    pub next : after.next ≡ before.next
    pub accepted : after.accepted ≡ before.accepted
    pub others : (other : ℕ) → other ≢ number → found after other ≡ found before other

  -- Only the state of the connection of this number may change, which stays open.
  abbrev pub StaysOpen : ℕ → Known S → Known S → Type 0
  StaysOpen number known known_after = OthersStay number known known_after × (length known_after.entries ≡ length known.entries)

  -- The connection of a number is no longer open, and the others stay.
  abbrev pub ForgetsOne : ℕ → Known S → Known S → Type 0
  ForgetsOne number known known_after = (found known_after number ≡ None) × OthersStay number known known_after

  -- The accepted stream, if any, is that of the next connection, which is open.
  abbrev pub OpensNext : Known S → Result Bool NoMemory → Known S → Type 0
  OpensNext known (Ok true) known_after =
      (stream : S) × (known.accepted ≡ Some stream) × (known_after.accepted ≡ None) × (known_after.next ≡ known.next + 1)
      × (found known_after known.next ≡ Some (fresh stream)) × ((other : ℕ) → other ≢ known.next → found known_after other ≡ found known other)
      × (known_after.limits ≡ known.limits) × (length known_after.entries ≡ length known.entries + 1)
  OpensNext known (Ok false) known_after = known_after ≡ known
  OpensNext known (Err refused) known_after = known_after ≡ known

  -- The accepted stream, if any, is taken out, and its number is used.
  abbrev pub DropsAccepted : Known S → Option S → Known S → Type 0
  DropsAccepted known None known_after = (known.accepted ≡ None) × (known_after ≡ known)
  DropsAccepted known (Some stream) known_after =
      (known.accepted ≡ Some stream) × (found known known.next ≡ None) × (known_after ≡ record known { next = known.next + 1; accepted = None })

  -- Every open connection rests: its next call would block, or it is armed.
  abbrev pub AreAtRest : (ℕ → Slot S) → Type 0
  AreAtRest places = (number : ℕ) (at : ConnectionState S) → places number ≡ Open at → at.rests ≡ true
