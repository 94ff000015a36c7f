use Rattle.sv_run.specs.Contexts.{theory_of}
use Rattle.sv_run.proofs.Joining as lemmas
use Rattle.sv_run.proofs.laws.runs_join.Goals as goal

pub returns : goal.returns
returns g c = lemmas.runs_join (theory_of g.C.HasContextPath.path_of g.C.Context.conduct g.W.Words.draws)
