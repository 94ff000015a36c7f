use Rattle.sv_run.specs.Contexts.{theory_of}
use Rattle.sv_run.proofs.SessionCalls as lemmas
use Rattle.sv_run.proofs.laws.sessions_change_by_calls.Goals as goal

pub returns : goal.returns
returns g c = lemmas.sessions_change_by_calls (theory_of g.C.HasContextPath.path_of g.C.Context.conduct g.W.Words.draws) g.met.C.Context.edits_alone
