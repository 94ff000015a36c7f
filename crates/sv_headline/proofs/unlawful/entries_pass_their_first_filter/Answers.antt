use Rattle.sv_component.specs.Steps.{steps_of}
use Rattle.sv_headline.proofs.Refuting.{entries_pass_their_first_filter}
use Rattle.sv_headline.proofs.unlawful.entries_pass_their_first_filter.Goals as goal

pub returns : goal.returns
returns g c = entries_pass_their_first_filter (steps_of g.S.Servlet.servlet_step g.F.Filter.filter_step g.L.Listener.listener_step)
