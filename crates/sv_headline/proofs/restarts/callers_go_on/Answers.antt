use Rattle.sv_component.specs.Steps.{steps_of}
use Rattle.sv_headline.proofs.Restarting.{callers_go_on}
use Rattle.sv_headline.proofs.restarts.callers_go_on.Goals as goal

pub returns : goal.returns
returns g c = callers_go_on (steps_of g.S.Servlet.servlet_step g.F.Filter.filter_step g.L.Listener.listener_step) g.row.W.Denot c.contexts_go_on.ensures
