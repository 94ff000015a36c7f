use Rattle.sv_session.proofs.RunLemmas.{touched_now}
use Rattle.sv_session.proofs.laws.an_accessed_session_has_not_expired.Goals as goal

pub returns-clause-touched : goal.returns-clause-touched
returns-clause-touched c number now store session found = touched_now number now store.interval store.sessions session found
