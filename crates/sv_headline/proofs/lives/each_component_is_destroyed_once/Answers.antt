use Rattle.sv_headline.proofs.Outliving.{each_is_destroyed_once}
use Rattle.sv_headline.proofs.lives.each_component_is_destroyed_once.Goals as goal
use Rattle.sv_component.specs.Steps.{steps_of}

pub returns : goal.returns
returns g c = each_is_destroyed_once (steps_of g.S.Servlet.servlet_step g.F.Filter.filter_step g.L.Listener.listener_step) g.row.W.Denot
