use Rattle.sv_component.specs.Steps.{steps_of}
use Rattle.sv_headline.proofs.AnsweringInOrder.{items_are_answered_in_order}
use Rattle.sv_headline.proofs.unlawful.items_are_answered_in_order.Goals as goal

pub returns : goal.returns
returns g c =
    items_are_answered_in_order (steps_of g.S.Servlet.servlet_step g.F.Filter.filter_step g.L.Listener.listener_step) g.W.Words.draws
    c.feedings_may_be_cut.ensures c.readings_are_unique.ensures
