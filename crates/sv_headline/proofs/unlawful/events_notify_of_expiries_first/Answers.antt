use Rattle.sv_component.specs.Steps.{steps_of}
use Rattle.sv_headline.proofs.RefutingEvents.{events_notify_of_expiries_first}
use Rattle.sv_headline.proofs.unlawful.events_notify_of_expiries_first.Goals as goal

pub returns : goal.returns
returns g c =
    events_notify_of_expiries_first (steps_of g.S.Servlet.servlet_step g.F.Filter.filter_step g.L.Listener.listener_step) g.W.Words.draws
