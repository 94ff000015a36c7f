use Rattle.sv_component.proofs.Running as running
use Rattle.sv_component.proofs.laws.runs_join.Goals as goal
use Rattle.sv_component.specs.Steps.{steps_of}

pub returns : goal.returns
returns g c = running.runs_join (steps_of g.S.Servlet.servlet_step g.F.Filter.filter_step g.L.Listener.listener_step)
