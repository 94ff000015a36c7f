use Rattle.std.proofs.Common.{length}
use Rattle.sv_live.specs.SessionEnds.{all_told, end_events}
use Rattle.sv_live.specs.World.{HasSameCounts, world}
use Rattle.sv_live.proofs.SessionEnds.{Doing, removals}
use Rattle.sv_live.proofs.session_ends.tell_end.Given as goal
use Rattle.sv_component.specs.Steps.{steps_of}

abbrev pub invariant-loop-attribute : goal.invariant-loop-attribute
invariant-loop-attribute g l =
    let count = length l.fn.parts.listeners.items in
    record {
      counts : HasSameCounts l.fn.parts l.parts;
      made : Doing (steps_of g.S.Servlet.servlet_step g.F.Filter.filter_step g.L.Listener.listener_step) (world l.context l.fn.parts l.fn.journal)
          (all_told (end_events l.fn.session) count) (removals l.number count l.attribute-iterator.rest.items) (world l.context l.parts l.journal);
    }
