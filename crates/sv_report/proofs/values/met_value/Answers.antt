use Rattle.std.proofs.Common.{rules}
use Rattle.serde_json.specs.declared.value.Value.{the_lemmas}
use Rattle.sv_report.specs.Json.{met_value}
use Rattle.sv_report.proofs.values.met_value.Goals as goal

pub returns : goal.returns
unfolding met_value
returns c = search (rules, the_lemmas)
