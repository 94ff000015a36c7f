use Rattle.sv_headline.proofs.SinceTheStart.{since_the_start}
use Rattle.sv_headline.proofs.runs.callers_logged_in_since_the_start.Goals as goal
use Rattle.sv_context.specs.Theory.{theory}
use Rattle.sv_component.specs.Steps.{steps_of}

pub returns : goal.returns
returns g c =
    since_the_start (theory (steps_of g.S.Servlet.servlet_step g.F.Filter.filter_step g.L.Listener.listener_step) g.W.Words.draws) c.callers_logged_in.ensures
