use Rattle.sv_session.proofs.RunLemmas.{call_leaves_order}
use Rattle.sv_session.proofs.laws.sessions_stay_in_order.Goals as goal

pub returns-clause-call : goal.returns-clause-call
returns-clause-call c = call_leaves_order
