use Rattle.std.proofs.Common.{◌≡◌, ◌++◌, length}
use Rattle.std.specs.String.{string_bytes}
use Rattle.sv_access_log.specs.Answered.{event_lines, lines_from}
use Rattle.sv_access_log.proofs.event_lines.event_lines.Given as goal

-- The lines so far, and those of the rest, are the lines of the event.
abbrev pub invariant-loop-access : goal.invariant-loop-access
invariant-loop-access g l =
    event_lines (g.R.AccessSource.answered l.source) l.journal l.scene ≡ string_bytes l.text ++ lines_from (g.R.AccessSource.answered l.source) l.journal l.scene l.micros l.rest

abbrev pub decreases-loop-access : goal.decreases-loop-access
decreases-loop-access g l = length l.rest
