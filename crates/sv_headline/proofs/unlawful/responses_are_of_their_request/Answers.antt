use Rattle.sv_component.specs.Steps.{steps_of}
use Rattle.sv_headline.proofs.RefutingEvents.{responses_are_of_their_request}
use Rattle.sv_headline.proofs.unlawful.responses_are_of_their_request.Goals as goal

pub returns : goal.returns
returns g c =
    responses_are_of_their_request (steps_of g.S.Servlet.servlet_step g.F.Filter.filter_step g.L.Listener.listener_step) g.W.Words.draws
    c.feedings_may_be_cut.ensures c.readings_are_unique.ensures
