use Rattle.sv_container.proofs.Quiet.{stopped_stop_quietly}
use Rattle.sv_container.proofs.laws.stopped_containers_stop_quietly.Goals as goal
use Rattle.sv_component.specs.Steps.{steps_of}

pub returns : goal.returns
returns g c = stopped_stop_quietly (steps_of g.S.Servlet.servlet_step g.F.Filter.filter_step g.L.Listener.listener_step) g.row.W.Denot
