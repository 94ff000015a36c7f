use Rattle.sv_headline.proofs.Cutting.{begins_so}
use Rattle.sv_headline.proofs.laws.what_a_refused_script_prints_begins_the_whole.Goals as goal
use Rattle.sv_component.specs.Steps.{steps_of}

pub returns : goal.returns
returns g c =
    begins_so (steps_of g.S.Servlet.servlet_step g.F.Filter.filter_step g.L.Listener.listener_step) g.I.Stream.makes g.O.Stream.makes
    c.a_cut_text_begins_the_whole.ensures
