use Rattle.std.proofs.Common.{rules}
use Rattle.serde_json.specs.declared.value.Value.{the_lemmas}
use Rattle.sv_report.specs.FindingJson.{finding_value}
use Rattle.sv_report.proofs.finding_values.finding_value.Goals as goal

pub returns : goal.returns
unfolding finding_value
returns c = search (rules, the_lemmas)
