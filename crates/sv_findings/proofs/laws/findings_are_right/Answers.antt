use Rattle.sv_findings.proofs.FindingLemmas.{findings_right}
use Rattle.sv_findings.proofs.laws.findings_are_right.Goals as goal

pub returns : goal.returns
returns c = findings_right c.canonical_has_shape.ensures
