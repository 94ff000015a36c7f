use Rattle.sv_run.specs.Contexts.{theory_of}
use Rattle.sv_run.proofs.Cuts as lemmas
use Rattle.sv_run.proofs.laws.pieces_may_be_cut.Goals as goal

pub returns : goal.returns
returns g c = lemmas.pieces_may_be_cut (theory_of g.C.HasContextPath.path_of g.C.Context.conduct g.W.Words.draws)
