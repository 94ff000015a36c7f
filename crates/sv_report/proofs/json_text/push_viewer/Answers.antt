use Rattle.sv_report.proofs.JsonLemmas.{in_viewer}
use Rattle.sv_report.proofs.JsonTexts.{written}
use Rattle.sv_report.proofs.json_text.push_viewer.Goals as goal

pub returns : goal.returns
returns c = written c.push_value.result _ _ _ _ c.in_ok-value.ensures (in_viewer _) c.push_value.ensures
