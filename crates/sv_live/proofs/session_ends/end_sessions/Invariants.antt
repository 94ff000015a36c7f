use Rattle.std.proofs.Common.{length}
use Rattle.sv_live.specs.World.{HasSameCounts, world}
use Rattle.sv_live.proofs.SessionEnds.{Doing, told_of}
use Rattle.sv_live.proofs.session_ends.end_sessions.Given as goal
use Rattle.sv_component.specs.Steps.{steps_of}

abbrev pub invariant-loop-session : goal.invariant-loop-session
invariant-loop-session g l =
    let count = length l.initial.parts.listeners.items in
    record {
      counts : HasSameCounts l.initial.parts l.parts;
      made : Doing (steps_of g.S.Servlet.servlet_step g.F.Filter.filter_step g.L.Listener.listener_step) (world l.context l.initial.parts l.initial.journal)
          (told_of l.initial.ended count) (told_of l.ended count) (world l.context l.parts l.journal);
    }

abbrev pub decreases-loop-session : goal.decreases-loop-session
decreases-loop-session g l = length l.ended
