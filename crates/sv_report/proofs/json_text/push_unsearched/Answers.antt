use Rattle.std.proofs.Common.{map}
use Rattle.sv_report.specs.FindingWords.{unsearched_name}
use Rattle.sv_report.proofs.JsonLemmas.{in_strings}
use Rattle.sv_report.proofs.JsonTexts.{written}
use Rattle.sv_report.proofs.json_text.push_unsearched.Goals as goal

pub returns : goal.returns
returns c = written c.push_value.result _ _ _ _ c.in_ok-value.ensures (in_strings (map unsearched_name c.args.kinds.now)) c.push_value.ensures
