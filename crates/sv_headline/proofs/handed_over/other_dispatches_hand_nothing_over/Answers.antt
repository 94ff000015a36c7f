use Rattle.sv_component.specs.Steps.{steps_of}
use Rattle.sv_headline.proofs.HandingOver.{other_dispatches_hand_nothing_over}
use Rattle.sv_headline.proofs.handed_over.other_dispatches_hand_nothing_over.Goals as goal

pub returns : goal.returns
returns g c =
    other_dispatches_hand_nothing_over (steps_of g.S.Servlet.servlet_step g.F.Filter.filter_step g.L.Listener.listener_step)
    c.runs_move_components.ensures
