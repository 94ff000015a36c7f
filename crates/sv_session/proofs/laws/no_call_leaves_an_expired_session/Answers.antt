use Rattle.sv_session.proofs.RunLemmas.{call_leaves_none}
use Rattle.sv_session.proofs.laws.no_call_leaves_an_expired_session.Goals as goal

pub returns : goal.returns
returns c = call_leaves_none
