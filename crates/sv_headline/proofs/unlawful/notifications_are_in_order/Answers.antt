use Rattle.sv_component.specs.Steps.{steps_of}
use Rattle.sv_headline.proofs.Refuting.{notifications_are_in_order}
use Rattle.sv_headline.proofs.unlawful.notifications_are_in_order.Goals as goal

pub returns : goal.returns
returns g c =
    notifications_are_in_order (steps_of g.S.Servlet.servlet_step g.F.Filter.filter_step g.L.Listener.listener_step) c.just_one_case_holds.ensures
