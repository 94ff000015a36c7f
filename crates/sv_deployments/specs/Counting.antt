-- The effect of a call on a count of events.
use Rattle.std.specs.Prelude.{◌≡◌, ℕ, ◌+◌, ◌-◌, ◌^◌, min}
use Rattle.sv_component.specs.Call.{Call, Heard}

-- each event adds one, up to the greatest number; no other call changes the count
abbrev pub Counts : ℕ → Call → ℕ → Type 0
Counts before (Heard event) after = after ≡ min (before + 1) (2 ^ 64 - 1)
Counts before call after = after ≡ before
