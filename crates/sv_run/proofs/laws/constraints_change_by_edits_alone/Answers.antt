use Rattle.sv_run.specs.Contexts.{theory_of}
use Rattle.sv_run.proofs.Constraints as lemmas
use Rattle.sv_run.proofs.laws.constraints_change_by_edits_alone.Goals as goal

pub returns : goal.returns
returns g c =
    lemmas.constraints_change_by_edits_alone (theory_of g.C.HasContextPath.path_of g.C.Context.conduct g.W.Words.draws) g.met.C.Context.edits_alone
