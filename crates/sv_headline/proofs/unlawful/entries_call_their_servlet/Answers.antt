use Rattle.sv_component.specs.Steps.{steps_of}
use Rattle.sv_headline.proofs.Refuting.{entries_call_their_servlet}
use Rattle.sv_headline.proofs.unlawful.entries_call_their_servlet.Goals as goal

pub returns : goal.returns
returns g c = entries_call_their_servlet (steps_of g.S.Servlet.servlet_step g.F.Filter.filter_step g.L.Listener.listener_step)
