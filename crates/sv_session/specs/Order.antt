-- The order of the records in a queue.
use Rattle.std.specs.Prelude.{◌≡◌, ℕ, ◌-◌, Bool, false, ◌&&◌, ◌||◌, ◌==◌, nat_lt, nat_le, List, Option, None, Some, slice_get, if◌then◌else◌}
use Rattle.sv_session.specs.declared.due.Due.{Due}

-- The entries of a queue, each with a record or empty.
abbrev pub Waiting : Type 0
Waiting = List (Option Due)

-- An earlier deadline, or the same deadline and a lower number.
abbrev pub is_before : Due → Due → Bool
is_before a b = nat_lt a.last_access b.last_access || (a.last_access == b.last_access && nat_lt a.number b.number)

-- The interval, in seconds, has passed since the last access. An interval of 0 never passes.
abbrev pub has_waited : ℕ → ℕ → Due → Bool
has_waited interval now due = nat_lt 0 interval && nat_le interval (now - due.last_access)

-- The first of two records that may be missing.
abbrev pub sooner : Option Due → Option Due → Option Due
sooner None other = other
sooner (Some due) None = Some due
sooner (Some due) (Some other) = if is_before other due then Some other else Some due

-- The record is in some entry.
abbrev pub Waits : Waiting → Due → Type 0
Waits places due = (place : ℕ) × (slice_get places place ≡ Some (Some due))

abbrev pub NoneWaits : Waiting → Type 0
NoneWaits places = (due : Due) → Waits places due → ⊥

-- The record is in the queue, and no other is before it.
abbrev pub IsFirst : Waiting → Due → Type 0
IsFirst places due = Waits places due × ((other : Due) → Waits places other → is_before other due ≡ false)
