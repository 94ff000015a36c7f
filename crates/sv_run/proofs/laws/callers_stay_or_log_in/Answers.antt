use Rattle.sv_run.specs.Contexts.{theory_of}
use Rattle.sv_run.proofs.Callers as lemmas
use Rattle.sv_run.proofs.laws.callers_stay_or_log_in.Goals as goal

pub returns : goal.returns
returns g c = lemmas.callers_stay_or_log_in (theory_of g.C.HasContextPath.path_of g.C.Context.conduct g.W.Words.draws) g.met.C.Context.edits_alone
