use Rattle.sv_component.proofs.Journalling.{run_gains}
use Rattle.sv_component.proofs.laws.runs_are_journalled.Goals as goal
use Rattle.sv_component.specs.Steps.{steps_of}

pub returns : goal.returns
returns g c = run_gains (steps_of g.S.Servlet.servlet_step g.F.Filter.filter_step g.L.Listener.listener_step)
