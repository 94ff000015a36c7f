-- Theorems about the slewed clock. A clock is any one that fits u64, and each law is of any readings.
use Rattle.std.specs.Prelude.{◌≡◌, ◌<◌, ◌≤◌, ◌+◌, ◌-◌, ◌*◌, ◌^◌, min, List, [], ◌∷◌}
use Rattle.std.specs.Int.{abs_diff, div_ceil}
use Rattle.sv_readiness.specs.declared.limits.TheConstants.{SLEW_DIVISOR}
use Rattle.sv_readiness.specs.declared.slewed_clock.Reading.{Reading}
use Rattle.sv_readiness.specs.declared.slewed_clock.SlewedClock.{SlewedClock}
use Rattle.sv_readiness.specs.Slewing.{after, slewed}

-- The time never goes back.
abbrev pub NeverGoesBack : Type 0
NeverGoesBack = (clock : SlewedClock) (readings : List Reading) → clock.time < 2 ^ 64 → clock.time ≤ (after clock readings).time

-- The time advances by as much as the boot time, up to a `SLEW_DIVISOR`th of that, which is rounded up. Only the
-- greatest u64 may stop it.
abbrev pub KeepsPace : Type 0
KeepsPace = (clock : SlewedClock) (readings : List Reading) →
    let last = after clock readings in
    let passed = last.boot - clock.boot in
    let slew = div_ceil passed SLEW_DIVISOR in
    clock.time < 2 ^ 64 →
    (clock.boot ≤ last.boot) × (min (2 ^ 64 - 1) (clock.time + (passed - slew)) ≤ last.time) × (last.time ≤ clock.time + (passed + slew))

-- from reading to reading the wall clock advances by as much as the boot time: it is not set
abbrev pub RunsEvenly : SlewedClock → List Reading → Type 0
RunsEvenly clock [] = Unit {0}
RunsEvenly clock (reading ∷ rest) =
    (clock.boot ≤ reading.boot) × (reading.wall ≡ clock.wall + (reading.boot - clock.boot)) × (reading.wall < 2 ^ 64) × RunsEvenly (slewed clock reading) rest

-- A time that agrees with the wall clock follows it while the wall clock runs evenly.
abbrev pub FollowsTheWallClock : Type 0
FollowsTheWallClock = (clock : SlewedClock) (readings : List Reading) → RunsEvenly clock readings → clock.time ≡ clock.wall
    → (after clock readings).time ≡ (after clock readings).wall

-- While the wall clock runs evenly, a time that differs from it comes to it once the boot time has advanced by
-- `SLEW_DIVISOR` times the difference.
abbrev pub ComesToTheWallClock : Type 0
ComesToTheWallClock = (clock : SlewedClock) (readings : List Reading) → RunsEvenly clock readings → clock.time < 2 ^ 64
    → abs_diff clock.wall clock.time * SLEW_DIVISOR ≤ (after clock readings).boot - clock.boot
    → (after clock readings).time ≡ (after clock readings).wall
