use Rattle.sv_component.specs.Steps.{steps_of}
use Rattle.sv_headline.proofs.Chaining.{each_lives_lawfully}
use Rattle.sv_headline.proofs.chains.each_container_of_a_chain_runs_lawfully.Goals as goal

pub returns : goal.returns
returns g c = each_lives_lawfully (steps_of g.S.Servlet.servlet_step g.F.Filter.filter_step g.L.Listener.listener_step) g.W.Words.draws c.every_run_is_lawful.ensures
