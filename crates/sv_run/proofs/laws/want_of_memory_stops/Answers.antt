use Rattle.sv_run.specs.Contexts.{theory_of}
use Rattle.sv_run.proofs.Joining as lemmas
use Rattle.sv_run.proofs.laws.want_of_memory_stops.Goals as goal

pub returns : goal.returns
returns g c = lemmas.want_of_memory_stops (theory_of g.C.HasContextPath.path_of g.C.Context.conduct g.W.Words.draws)
