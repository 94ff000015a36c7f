use Rattle.sv_component.specs.Steps.{steps_of}
use Rattle.sv_headline.proofs.Chaining.{callers_have_logged_in}
use Rattle.sv_headline.proofs.chains.callers_of_a_chain_have_logged_in.Goals as goal

pub returns : goal.returns
returns g c = callers_have_logged_in (steps_of g.S.Servlet.servlet_step g.F.Filter.filter_step g.L.Listener.listener_step) g.W.Words.draws c.callers_stay_or_log_in.ensures c.callers_go_on.ensures
