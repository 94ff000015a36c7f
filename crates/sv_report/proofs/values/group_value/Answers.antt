use Rattle.std.proofs.Common.{rules}
use Rattle.serde_json.specs.declared.value.Value.{the_lemmas}
use Rattle.sv_report.specs.Json.{group_value}
use Rattle.sv_report.proofs.values.group_value.Goals as goal

pub returns : goal.returns
unfolding group_value
returns c = search (rules, the_lemmas)
