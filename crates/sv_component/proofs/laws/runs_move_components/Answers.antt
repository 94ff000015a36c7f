use Rattle.sv_component.proofs.Moving.{components_moved}
use Rattle.sv_component.proofs.laws.runs_move_components.Goals as goal
use Rattle.sv_component.specs.Steps.{steps_of}

pub returns : goal.returns
returns g c = components_moved (steps_of g.S.Servlet.servlet_step g.F.Filter.filter_step g.L.Listener.listener_step)
