-- The effect of a call on the number of greeted callers.
use Rattle.std.specs.Prelude.{◌≡◌, ℕ, ◌+◌, ◌-◌, ◌^◌, min}
use Rattle.sv_servlet.specs.Call.{Call, Serviced}

-- Each call of `service` adds one, up to the maximum. Other calls leave the number as it is.
abbrev pub Counts : ℕ → Call → ℕ → Type 0
Counts before (Serviced asked turn step answered) after = after ≡ min (before + 1) (2 ^ 64 - 1)
Counts before call after = after ≡ before
