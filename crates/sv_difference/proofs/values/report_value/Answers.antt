use Rattle.std.proofs.Common.{rules}
use Rattle.serde_json.specs.declared.value.Value.{the_lemmas}
use Rattle.sv_difference.specs.DifferenceJson.{report_value}
use Rattle.sv_difference.proofs.values.report_value.Goals as goal

pub returns : goal.returns
unfolding report_value
returns c = search (rules, the_lemmas)
