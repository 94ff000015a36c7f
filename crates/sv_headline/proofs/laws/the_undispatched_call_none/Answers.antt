use Rattle.sv_headline.proofs.Undispatched as lemmas
use Rattle.sv_headline.proofs.laws.the_undispatched_call_none.Goals as goal
use Rattle.sv_component.specs.Steps.{steps_of}

pub returns : goal.returns
returns g c = lemmas.the_undispatched_call_none (steps_of g.S.Servlet.servlet_step g.F.Filter.filter_step g.L.Listener.listener_step) g.W.Words.draws
