use Rattle.sv_run.specs.Contexts.{theory_of}
use Rattle.sv_run.proofs.Cuts as lemmas
use Rattle.sv_run.proofs.laws.pieces_may_come_in_parts.Goals as goal

pub returns : goal.returns
returns g c = lemmas.pieces_may_come_in_parts (theory_of g.C.HasContextPath.path_of g.C.Context.conduct g.W.Words.draws)
