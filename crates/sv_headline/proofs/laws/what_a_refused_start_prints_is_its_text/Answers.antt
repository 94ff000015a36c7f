use Rattle.sv_component.specs.Steps.{steps_of}
use Rattle.sv_headline.proofs.Failing.{is_its_text}
use Rattle.sv_headline.proofs.laws.what_a_refused_start_prints_is_its_text.Goals as goal

pub returns : goal.returns
returns g c = is_its_text (steps_of g.S.Servlet.servlet_step g.F.Filter.filter_step g.L.Listener.listener_step) g.I.Stream.makes g.O.Stream.makes
