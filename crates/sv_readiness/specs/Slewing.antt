-- A clock that is slewed towards the wall clock, in milliseconds.
use Rattle.std.specs.Prelude.{ℕ, ◌+◌, ◌-◌, ◌/◌, ◌^◌, min, max, nat_lt, if◌then◌else◌, List, [], ◌∷◌, ℤ, pos, neg_ℤ}
use Rattle.std.specs.Int.{abs_diff}
use Rattle.sv_readiness.specs.declared.limits.TheConstants.{SLEW_DIVISOR}
use Rattle.sv_readiness.specs.declared.slewed_clock.Reading.{Reading}
use Rattle.sv_readiness.specs.declared.slewed_clock.SlewedClock.{SlewedClock}

-- the time begins at the wall clock
abbrev pub started : Reading → SlewedClock
started first = record { boot = first.boot; wall = first.wall; time = first.wall }

-- how far the time may be slewed while the boot time advances: a millisecond at each multiple of `SLEW_DIVISOR`
abbrev pub slew : ℕ → ℕ → ℕ
slew before after = after / SLEW_DIVISOR - before / SLEW_DIVISOR

-- the number nearest to `wanted` that differs from `middle` by at most `most`
abbrev pub nearest : ℕ → ℕ → ℕ → ℕ
nearest wanted middle most = max (middle - most) (min wanted (middle + most))

-- the time after the boot time has advanced: as near to the wall clock as the slew permits, at most the greatest u64
abbrev pub advanced : ℕ → ℕ → ℕ → ℕ → ℕ
advanced time before after wall = min (2 ^ 64 - 1) (nearest wall (time + (after - before)) (slew before after))

-- the clock after a reading; a boot time that is less than an earlier one counts as that one
abbrev pub slewed : SlewedClock → Reading → SlewedClock
slewed clock reading =
    let boot = max clock.boot reading.boot in
    record { boot = boot; wall = reading.wall; time = advanced clock.time clock.boot boot reading.wall }

-- the clock after several readings, in their order
abbrev pub after : SlewedClock → List Reading → SlewedClock
after clock [] = clock
after clock (reading ∷ rest) = after (slewed clock reading) rest

-- the reading that the clock was last advanced to
abbrev pub last_reading : SlewedClock → Reading
last_reading clock = record { boot = clock.boot; wall = clock.wall }

-- the lead of the wall clock over the time in whole seconds, negative if the wall clock is slower
abbrev pub offset : SlewedClock → ℤ
offset clock =
    let seconds = abs_diff clock.wall clock.time / 1000 in
    if nat_lt clock.wall clock.time then neg_ℤ (pos seconds) else pos seconds
