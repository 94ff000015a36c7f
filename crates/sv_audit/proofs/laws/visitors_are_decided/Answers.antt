use Rattle.sv_audit.proofs.VisitorLemmas.{effective_is_met, letting_in_exact, same_callers_exact}
use Rattle.sv_audit.proofs.laws.visitors_are_decided.Goals as goal

pub returns-clause-effective : goal.returns-clause-effective
returns-clause-effective c = effective_is_met

pub returns-clause-callers : goal.returns-clause-callers
returns-clause-callers c = same_callers_exact

pub returns-clause-letting : goal.returns-clause-letting
returns-clause-letting c = letting_in_exact
