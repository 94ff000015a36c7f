use Rattle.sv_component.specs.Steps.{steps_of}
use Rattle.sv_headline.proofs.Refuting.{logins_are_of_their_session}
use Rattle.sv_headline.proofs.unlawful.logins_are_of_their_session.Goals as goal

pub returns : goal.returns
returns g c =
    logins_are_of_their_session (steps_of g.S.Servlet.servlet_step g.F.Filter.filter_step g.L.Listener.listener_step) c.just_one_case_holds.ensures
