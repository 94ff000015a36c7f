use Rattle.sv_connection.proofs.Bytes.{closed_has_a_cause, lost_has_a_cause}
use Rattle.sv_connection.proofs.laws.the_end_has_a_cause.Goals as goal

pub returns-clause-lost : goal.returns-clause-lost
returns-clause-lost c = lost_has_a_cause

pub returns-clause-closed : goal.returns-clause-closed
returns-clause-closed c = closed_has_a_cause
