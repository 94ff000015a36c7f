use Rattle.sv_findings.proofs.FoundFindings.{dead_found, head_found, opened_found, overruled_found, reading_found, uncovered_found, unreached_found}
use Rattle.sv_findings.proofs.FoundNeeds.{asked_need_is_found, need_is_found}
use Rattle.sv_findings.proofs.laws.findings_are_complete.Goals as goal

pub returns-clause-opened : goal.returns-clause-opened
returns-clause-opened c = opened_found c.best_is_a_match.ensures

pub returns-clause-uncovered : goal.returns-clause-uncovered
returns-clause-uncovered c = uncovered_found

pub returns-clause-heads : goal.returns-clause-heads
returns-clause-heads c = head_found c.best_is_a_match.ensures

pub returns-clause-dead : goal.returns-clause-dead
returns-clause-dead c = dead_found

pub returns-clause-readings : goal.returns-clause-readings
returns-clause-readings c = reading_found

pub returns-clause-unreached : goal.returns-clause-unreached
returns-clause-unreached c = unreached_found

pub returns-clause-overruled : goal.returns-clause-overruled
returns-clause-overruled c = overruled_found

pub returns-clause-needs : goal.returns-clause-needs
returns-clause-needs c = need_is_found

pub returns-clause-asked_needs : goal.returns-clause-asked_needs
returns-clause-asked_needs c = asked_need_is_found c.best_is_a_match.ensures
