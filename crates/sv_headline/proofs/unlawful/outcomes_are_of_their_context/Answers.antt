use Rattle.sv_component.specs.Steps.{steps_of}
use Rattle.sv_headline.proofs.Refuting.{outcomes_are_of_their_context}
use Rattle.sv_headline.proofs.unlawful.outcomes_are_of_their_context.Goals as goal

pub returns : goal.returns
returns g c =
    outcomes_are_of_their_context (steps_of g.S.Servlet.servlet_step g.F.Filter.filter_step g.L.Listener.listener_step) c.just_one_case_holds.ensures
