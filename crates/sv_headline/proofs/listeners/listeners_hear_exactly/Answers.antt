use Rattle.sv_component.specs.Steps.{steps_of}
use Rattle.sv_headline.proofs.Hearing.{listeners_hear_exactly}
use Rattle.sv_headline.proofs.listeners.listeners_hear_exactly.Goals as goal

pub returns : goal.returns
returns g c =
    listeners_hear_exactly (steps_of g.S.Servlet.servlet_step g.F.Filter.filter_step g.L.Listener.listener_step) c.just_one_case_holds.ensures g.W.Words.draws
