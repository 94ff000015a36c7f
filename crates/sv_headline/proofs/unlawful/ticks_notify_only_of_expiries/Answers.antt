use Rattle.sv_component.specs.Steps.{steps_of}
use Rattle.sv_headline.proofs.RefutingEvents.{ticks_notify_only_of_expiries}
use Rattle.sv_headline.proofs.unlawful.ticks_notify_only_of_expiries.Goals as goal

pub returns : goal.returns
returns g c =
    ticks_notify_only_of_expiries (steps_of g.S.Servlet.servlet_step g.F.Filter.filter_step g.L.Listener.listener_step) g.W.Words.draws
