-- The timeouts of a connection's calls, in milliseconds.
use Rattle.std.specs.Prelude.{ℕ, ◌+◌, ◌-◌, ◌*◌, ◌^◌, min, if◌then◌else◌, nat_le}
use Rattle.sv_connection.specs.declared.limits.TheConstants.{BYTES_A_WINDOW, WINDOW_SECONDS}
use Rattle.sv_listening.specs.declared.limits.TheConstants.{SERVE_IDLE_SECONDS}
use Rattle.sv_listening.specs.declared.pace.Doing.{Doing}
use Rattle.sv_listening.specs.declared.pace.Doing.TheVariants.{Reads, Rests, Writes}
use Rattle.sv_listening.specs.declared.pace.Pace.{Pace}

abbrev pub resting : Pace
resting = record { doing = Rests; moved = 0; until = 0 }

-- The window of an activity begins.
abbrev pub begun : Doing → ℕ → Pace
begun doing now = record { doing = doing; moved = 0; until = min (now + WINDOW_SECONDS * 1000) (2 ^ 64 - 1) }

-- Bytes moved. Enough of them begin another window, and nothing else extends it.
abbrev pub moved_on : Pace → ℕ → ℕ → Pace
moved_on pace now count =
    if nat_le BYTES_A_WINDOW (pace.moved + count) then begun pace.doing now else record { doing = pace.doing; moved = pace.moved + count; until = pace.until }

-- Bytes were read. The first of them begin a window.
abbrev pub read_on : Doing → Pace → ℕ → ℕ → Pace
read_on Reads pace now count = moved_on pace now count
read_on other pace now count = begun Reads now

abbrev pub has_read : Pace → ℕ → ℕ → Pace
has_read pace now count = read_on pace.doing pace now count

-- A write begins a window, unless the connection already writes.
abbrev pub written_on : Doing → Pace → ℕ → Pace
written_on Writes pace now = pace
written_on other pace now = begun Writes now

abbrev pub writing : Pace → ℕ → Pace
writing pace now = written_on pace.doing pace now

-- A read waits until the end of its window. If nothing was read since the last write, it waits for the idle timeout.
abbrev pub wait_of : Doing → Pace → ℕ → ℕ
wait_of Reads pace now = pace.until - now
wait_of other pace now = SERVE_IDLE_SECONDS * 1000

abbrev pub wait_to_read : Pace → ℕ → ℕ
wait_to_read pace now = wait_of pace.doing pace now
