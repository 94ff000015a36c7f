use Rattle.sv_run.specs.Contexts.{theory_of}
use Rattle.sv_run.proofs.Refusals as lemmas
use Rattle.sv_run.proofs.laws.pieces_are_taken_in_parts.Goals as goal

pub returns : goal.returns
returns g c = lemmas.pieces_are_taken_in_parts (theory_of g.C.HasContextPath.path_of g.C.Context.conduct g.W.Words.draws)
