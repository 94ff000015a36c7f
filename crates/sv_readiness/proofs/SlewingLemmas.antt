-- How far a slewed clock advances, and when it comes to the wall clock.
use Rattle.std.proofs.Common.{◌≡◌, ℕ, List, [], ◌∷◌, arith}
use Rattle.std.specs.Prelude.{◌<◌, ◌≤◌, ◌+◌, ◌-◌, ◌*◌, ◌^◌, min, max}
use Rattle.std.specs.Int.{abs_diff, div_ceil}
use Rattle.sv_readiness.specs.declared.limits.TheConstants.{SLEW_DIVISOR}
use Rattle.sv_readiness.specs.declared.slewed_clock.Reading.{Reading}
use Rattle.sv_readiness.specs.declared.slewed_clock.SlewedClock.{SlewedClock}
use Rattle.sv_readiness.specs.Slewing.{advanced, after, nearest, slew, slewed}
use Rattle.sv_readiness.specs.SlewingLaws.{ComesToTheWallClock, FollowsTheWallClock, KeepsPace, NeverGoesBack, RunsEvenly}

-- ---- how far the clock may be slewed
slew_below : (before end : ℕ) → before ≤ end → slew before end ≤ end - before
slew_below before end less = omega arith

slews_add : (before between end : ℕ) → before ≤ between → between ≤ end → slew before end ≡ slew before between + slew between end
slews_add before between end one two = omega arith

slew_rounded : (before end : ℕ) → before ≤ end → slew before end ≤ div_ceil (end - before) SLEW_DIVISOR
slew_rounded before end less = omega arith

slew_enough : (before end most : ℕ) → before ≤ end → most * SLEW_DIVISOR ≤ end - before → most ≤ slew before end
slew_enough before end most less enough = omega arith

-- ---- one reading
fits : (time before end wall : ℕ) → advanced time before end wall < 2 ^ 64
fits time before end wall = omega arith

at_least : (time passed most wall : ℕ) → most ≤ passed
    → min (2 ^ 64 - 1) (time + (passed - most)) ≤ min (2 ^ 64 - 1) (nearest wall (time + passed) most)
at_least time passed most wall less = omega arith

at_most : (time passed most wall : ℕ) → min (2 ^ 64 - 1) (nearest wall (time + passed) most) ≤ time + (passed + most)
at_most time passed most wall = omega arith

nearer : (time passed most wall wall_after : ℕ) → most ≤ passed → wall_after ≡ wall + passed → wall_after < 2 ^ 64
    → abs_diff wall_after (min (2 ^ 64 - 1) (nearest wall_after (time + passed) most)) ≤ abs_diff wall time - most
nearer time passed most wall wall_after less even small = omega arith

-- ---- several readings
record Paces (time boot : ℕ) (last : SlewedClock) : Type 0 where
  pub ahead : boot ≤ last.boot
  pub least : min (2 ^ 64 - 1) (time + ((last.boot - boot) - slew boot last.boot)) ≤ last.time
  pub most : last.time ≤ time + ((last.boot - boot) + slew boot last.boot)

joined_least : (time first slewed_first second slewed_second passed slewed_all middle end : ℕ)
    → slewed_first ≤ first → slewed_second ≤ second → passed ≡ first + second → slewed_all ≡ slewed_first + slewed_second
    → min (2 ^ 64 - 1) (time + (first - slewed_first)) ≤ middle → min (2 ^ 64 - 1) (middle + (second - slewed_second)) ≤ end
    → min (2 ^ 64 - 1) (time + (passed - slewed_all)) ≤ end
joined_least time first slewed_first second slewed_second passed slewed_all middle end one two all slews least more = omega arith

joined_most : (time first slewed_first second slewed_second passed slewed_all middle end : ℕ)
    → passed ≡ first + second → slewed_all ≡ slewed_first + slewed_second
    → middle ≤ time + (first + slewed_first) → end ≤ middle + (second + slewed_second) → end ≤ time + (passed + slewed_all)
joined_most time first slewed_first second slewed_second passed slewed_all middle end all slews most more = omega arith

joined : (time before between wall : ℕ) (last : SlewedClock) → before ≤ between → Paces (advanced time before between wall) between last
    → Paces time before last
joined time before between wall last less rest =
    let first = slew_below before between less in
    let second = slew_below between last.boot rest.ahead in
    let slews = slews_add before between last.boot less rest.ahead in
    let passed : last.boot - before ≡ (between - before) + (last.boot - between) = omega (arith, rest.ahead) in
    record {
      ahead = omega (arith, rest.ahead);
      least = joined_least time (between - before) (slew before between) (last.boot - between) (slew between last.boot) (last.boot - before)
          (slew before last.boot) (advanced time before between wall) last.time first second passed slews
          (at_least time (between - before) (slew before between) wall first) rest.least;
      most = joined_most time (between - before) (slew before between) (last.boot - between) (slew between last.boot) (last.boot - before)
          (slew before last.boot) (advanced time before between wall) last.time passed slews
          (at_most time (between - before) (slew before between) wall) rest.most;
    }

paces : (clock : SlewedClock) (readings : List Reading) → clock.time < 2 ^ 64 → Paces clock.time clock.boot (after clock readings)
paces clock [] small = record { ahead = omega arith; least = omega arith; most = omega arith }
paces clock (reading ∷ rest) small =
    let between = max clock.boot reading.boot in
    joined clock.time clock.boot between reading.wall (after (slewed clock reading) rest) (omega arith)
    (paces (slewed clock reading) rest (fits clock.time clock.boot between reading.wall))

-- ---- a wall clock that runs evenly
left_over : (far far_after first second both : ℕ) → far_after ≤ far - first → far ≤ both → both ≡ first + second → far_after ≤ second
left_over far far_after first second both nearer near sum = omega arith

comes : (clock : SlewedClock) (readings : List Reading) → RunsEvenly clock readings → clock.time < 2 ^ 64
    → abs_diff clock.wall clock.time ≤ slew clock.boot (after clock readings).boot
    → (after clock readings).time ≡ (after clock readings).wall
comes clock [] even small near = omega arith
comes clock (reading ∷ rest) even small near =
    let between = max clock.boot reading.boot in
    let less : clock.boot ≤ between = omega arith in
    let middle = slewed clock reading in
    let last = after middle rest in
    let fit = fits clock.time clock.boot between reading.wall in
    let first = slew clock.boot between in
    let closer = nearer clock.time (between - clock.boot) first clock.wall reading.wall (slew_below clock.boot between less)
    (omega (arith, even.0, even.1)) even.2 in
    let sum = slews_add clock.boot between last.boot less (paces middle rest fit).ahead in
    comes middle rest even.3 fit
    (left_over (abs_diff clock.wall clock.time) (abs_diff middle.wall middle.time) first (slew between last.boot) (slew clock.boot last.boot) closer near sum)

-- ---- the laws
forward : (time passed most end : ℕ) → time < 2 ^ 64 → most ≤ passed → min (2 ^ 64 - 1) (time + (passed - most)) ≤ end → time ≤ end
forward time passed most end small less least = omega arith

pub never_back : NeverGoesBack
never_back clock readings small =
    let last = after clock readings in
    let it = paces clock readings small in
    forward clock.time (last.boot - clock.boot) (slew clock.boot last.boot) last.time small (slew_below clock.boot last.boot it.ahead) it.least

wider : (time passed most rounded end : ℕ) → most ≤ rounded → min (2 ^ 64 - 1) (time + (passed - most)) ≤ end → end ≤ time + (passed + most)
    → (min (2 ^ 64 - 1) (time + (passed - rounded)) ≤ end) × (end ≤ time + (passed + rounded))
wider time passed most rounded end less least more = (omega arith, omega arith)

pub keeps_pace : KeepsPace
keeps_pace clock readings small =
    let last = after clock readings in
    let it = paces clock readings small in
    let rounded = slew_rounded clock.boot last.boot it.ahead in
    let passed = last.boot - clock.boot in
    let wide = wider clock.time passed (slew clock.boot last.boot) (div_ceil passed SLEW_DIVISOR) last.time rounded it.least it.most in
    (it.ahead, wide.0, wide.1)

pub follows : FollowsTheWallClock
follows clock [] even agree = agree
follows clock (reading ∷ rest) even agree =
    comes clock (reading ∷ rest) even (omega (arith, even.1, even.2, agree)) (omega (arith, agree))

pub comes_in_time : ComesToTheWallClock
comes_in_time clock readings even small enough =
    let last = after clock readings in
    comes clock readings even small
    (slew_enough clock.boot last.boot (abs_diff clock.wall clock.time) (paces clock readings small).ahead enough)
