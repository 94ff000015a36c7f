use Rattle.sv_component.specs.Steps.{steps_of}
use Rattle.sv_headline.proofs.HandingOver.{entries_are_handed_over}
use Rattle.sv_headline.proofs.handed_over.entries_are_handed_over.Goals as goal

pub returns : goal.returns
returns g c =
    entries_are_handed_over (steps_of g.S.Servlet.servlet_step g.F.Filter.filter_step g.L.Listener.listener_step)
    c.runs_move_components.ensures c.entries_call_their_servlet.ensures
