use Rattle.sv_session.proofs.CallerLemmas.{call_enters, caller_found, caller_holds}
use Rattle.sv_session.proofs.laws.callers_are_entered.Goals as goal

pub returns-clause-entered : goal.returns-clause-entered
returns-clause-entered c call store number caller h = call_enters number caller call store h

pub returns-clause-found : goal.returns-clause-found
returns-clause-found c store orderly number caller = (caller_found number caller store orderly, caller_holds number caller store)
