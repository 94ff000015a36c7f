use Rattle.sv_saved_sessions.proofs.CopyLemmas.{copies_are_orderly, copies_stood_in_the_store}
use Rattle.sv_saved_sessions.proofs.laws.a_copied_session_stood_in_the_store.Goals as goal

pub returns-clause-stood : goal.returns-clause-stood
returns-clause-stood c = copies_stood_in_the_store

pub returns-clause-order : goal.returns-clause-order
returns-clause-order c = copies_are_orderly
