use Rattle.sv_run.specs.Contexts.{theory_of}
use Rattle.sv_run.proofs.Refusals as lemmas
use Rattle.sv_run.proofs.laws.orders_are_taken_alike.Goals as goal

pub returns : goal.returns
returns g c = lemmas.orders_are_taken_alike (theory_of g.C.HasContextPath.path_of g.C.Context.conduct g.W.Words.draws) g.met.C.Context.edits_alone
