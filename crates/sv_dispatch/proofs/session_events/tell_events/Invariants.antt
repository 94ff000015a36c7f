use Rattle.std.proofs.Common.{◌≡◌, length}
use Rattle.sv_live.proofs.SessionEnds.{Doing}
use Rattle.sv_live.specs.Calling.{StandsAsBefore}
use Rattle.sv_live.specs.Standing.{live_world}
use Rattle.sv_tree.specs.Asking.{without_events}
use Rattle.sv_tree.specs.Telling.{all_told}
use Rattle.sv_dispatch.proofs.session_events.tell_events.Given as goal
use Rattle.sv_component.specs.Steps.{steps_of}

abbrev pub invariant-loop-event : goal.invariant-loop-event
invariant-loop-event g l =
    let count = length l.initial.live.parts.listeners.items in
    record {
      stands : StandsAsBefore l.initial.live l.live;
      told : without_events l.exchange ≡ without_events l.initial.exchange;
      made : Doing (steps_of g.S.Servlet.servlet_step g.F.Filter.filter_step g.L.Listener.listener_step) (live_world l.initial.live l.initial.journal)
          (all_told count l.initial.exchange.events) (all_told count l.exchange.events) (live_world l.live l.journal);
    }

abbrev pub decreases-loop-event : goal.decreases-loop-event
decreases-loop-event g l = length l.exchange.events
