use Rattle.sv_run.specs.Contexts.{theory_of}
use Rattle.sv_script.proofs.Lawful.{lawful}
use Rattle.sv_script.proofs.laws.a_script_is_a_lawful_run.Goals as goal

pub returns : goal.returns
returns g c = lawful g.R.EventHandler.steps (theory_of g.C.HasContextPath.path_of g.C.Context.conduct g.W.Words.draws)
