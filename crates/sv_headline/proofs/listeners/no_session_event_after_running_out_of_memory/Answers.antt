use Rattle.sv_component.specs.Steps.{steps_of}
use Rattle.sv_headline.proofs.Hearing.{no_session_event}
use Rattle.sv_headline.proofs.listeners.no_session_event_after_running_out_of_memory.Goals as goal

pub returns : goal.returns
returns g c =
    no_session_event (steps_of g.S.Servlet.servlet_step g.F.Filter.filter_step g.L.Listener.listener_step) c.just_one_case_holds.ensures g.W.Words.draws
    c.want_of_memory_stops.ensures c.stopped_containers_stop_quietly.ensures
