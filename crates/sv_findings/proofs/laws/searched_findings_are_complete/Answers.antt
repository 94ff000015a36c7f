use Rattle.sv_findings.proofs.SearchedFindings.{searched_found, unserved_found}
use Rattle.sv_findings.proofs.laws.searched_findings_are_complete.Goals as goal

pub returns-clause-overruled : goal.returns-clause-overruled
returns-clause-overruled c = searched_found

pub returns-clause-unserved : goal.returns-clause-unserved
returns-clause-unserved c = unserved_found
