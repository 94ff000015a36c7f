use Rattle.sv_session.proofs.MoveLemmas.{moves_give_none, moves_join, moves_leave_none, moves_leave_order}
use Rattle.sv_session.proofs.laws.components_keep_the_sessions.Goals as goal

pub returns-clause-joins : goal.returns-clause-joins
returns-clause-joins c = moves_join

pub returns-clause-order : goal.returns-clause-order
returns-clause-order c = moves_leave_order

pub returns-clause-unexpired : goal.returns-clause-unexpired
returns-clause-unexpired c = moves_leave_none

pub returns-clause-callers : goal.returns-clause-callers
returns-clause-callers c = moves_give_none
