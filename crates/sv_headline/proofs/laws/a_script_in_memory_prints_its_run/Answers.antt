use Rattle.sv_headline.proofs.Remembering.{prints_its_run}
use Rattle.sv_headline.proofs.laws.a_script_in_memory_prints_its_run.Goals as goal
use Rattle.sv_component.specs.Steps.{steps_of}

pub returns : goal.returns
returns g c =
    prints_its_run (steps_of g.S.Servlet.servlet_step g.F.Filter.filter_step g.L.Listener.listener_step) c.what_a_script_prints_is_lawful.ensures
