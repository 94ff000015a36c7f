use Rattle.sv_container.proofs.laws.containers_explain_what_was_deployed.Goals as goal
use Rattle.sv_container.proofs.Deploying.{policies_stay}
use Rattle.sv_component.specs.Steps.{steps_of}

pub returns : goal.returns
returns g c = policies_stay (steps_of g.S.Servlet.servlet_step g.F.Filter.filter_step g.L.Listener.listener_step)
