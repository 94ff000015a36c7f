use Rattle.sv_run.specs.Contexts.{theory_of}
use Rattle.sv_run.proofs.Reactions.{run_of}
use Rattle.sv_run.proofs.handler.reactions_are_a_run.Goals as goal

pub returns : goal.returns
returns g c = run_of g.R.EventHandler.steps (theory_of g.C.HasContextPath.path_of g.C.Context.conduct g.W.Words.draws)
