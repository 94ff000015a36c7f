use Rattle.sv_component.specs.Steps.{steps_of}
use Rattle.sv_headline.proofs.RefutingEvents.{messages_are_answered}
use Rattle.sv_headline.proofs.unlawful.messages_are_answered.Goals as goal

pub returns : goal.returns
returns g c =
    messages_are_answered (steps_of g.S.Servlet.servlet_step g.F.Filter.filter_step g.L.Listener.listener_step) g.W.Words.draws
    c.feedings_may_be_cut.ensures c.readings_are_unique.ensures
