use Rattle.std.proofs.Common.{rules}
use Rattle.serde_json.specs.declared.value.Value.{the_lemmas}
use Rattle.sv_report.specs.Json.{unmet_value}
use Rattle.sv_report.proofs.values.unmet_value.Goals as goal

pub returns : goal.returns
unfolding unmet_value
returns c = search (rules, the_lemmas)
