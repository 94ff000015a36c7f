use Rattle.sv_findings.proofs.FindingLemmas.{best_decides}
use Rattle.sv_findings.proofs.laws.best_patterns_decide.Goals as goal

pub returns : goal.returns
returns c = best_decides c.canonical_has_shape.ensures
