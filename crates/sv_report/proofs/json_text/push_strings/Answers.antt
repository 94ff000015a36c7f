use Rattle.sv_report.proofs.JsonLemmas.{in_strings}
use Rattle.sv_report.proofs.JsonTexts.{written}
use Rattle.sv_report.proofs.json_text.push_strings.Goals as goal

pub returns : goal.returns
returns c = written c.push_value.result _ _ _ _ c.in_ok-value.ensures (in_strings c.args.texts.now) c.push_value.ensures
