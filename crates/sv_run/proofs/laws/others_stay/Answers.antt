use Rattle.sv_run.specs.Contexts.{theory_of}
use Rattle.sv_run.proofs.Breaking as lemmas
use Rattle.sv_run.proofs.laws.others_stay.Goals as goal

pub returns : goal.returns
returns g c = lemmas.others_stay (theory_of g.C.HasContextPath.path_of g.C.Context.conduct g.W.Words.draws)
