use Rattle.sv_run.specs.Contexts.{theory_of}
use Rattle.sv_run.proofs.Outcomes as lemmas
use Rattle.sv_run.proofs.laws.requests_enter_exactly_where_allowed.Goals as goal

pub returns : goal.returns
returns g c = lemmas.requests_enter (theory_of g.C.HasContextPath.path_of g.C.Context.conduct g.W.Words.draws) c.a_message_enters_exactly_by_an_open_verdict.ensures
