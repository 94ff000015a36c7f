use Rattle.sv_findings.proofs.RemovedLemmas.{removable}
use Rattle.sv_findings.proofs.laws.overruled_constraints_change_nothing.Goals as goal

pub returns : goal.returns
returns c = removable c.canonical_has_shape.ensures c.best_exists.ensures c.best_is_unique.ensures
