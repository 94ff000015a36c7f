use Rattle.sv_headline.proofs.Starting.{logged_in}
use Rattle.sv_headline.proofs.laws.callers_of_a_started_container_have_logged_in.Goals as goal
use Rattle.sv_component.specs.Steps.{steps_of}

pub returns : goal.returns
returns g c =
    logged_in (steps_of g.S.Servlet.servlet_step g.F.Filter.filter_step g.L.Listener.listener_step) g.W.Words.draws
    c.sessions_of_contexts_stay_in_order.ensures c.callers_logged_in_since_the_start.ensures
