use Rattle.sv_report.proofs.JsonLemmas.{in_finding}
use Rattle.sv_report.proofs.JsonTexts.{written}
use Rattle.sv_report.proofs.json_text.push_finding.Goals as goal

pub returns : goal.returns
returns c = written c.push_value.result _ _ _ _ c.in_ok-value.ensures (in_finding _ _) c.push_value.ensures
