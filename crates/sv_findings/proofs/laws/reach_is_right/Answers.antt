use Rattle.sv_findings.proofs.ReachLemmas.{elsewhere_foreign, hidden_protected, served_reached}
use Rattle.sv_findings.proofs.laws.reach_is_right.Goals as goal

pub returns-clause-hidden : goal.returns-clause-hidden
returns-clause-hidden c = hidden_protected

pub returns-clause-elsewhere : goal.returns-clause-elsewhere
returns-clause-elsewhere c = elsewhere_foreign

pub returns-clause-reached : goal.returns-clause-reached
returns-clause-reached c = served_reached
