use Rattle.std.proofs.Common.{rules}
use Rattle.serde_json.specs.declared.value.Value.{the_lemmas}
use Rattle.sv_difference.specs.DifferenceJson.{context_value}
use Rattle.sv_difference.proofs.values.context_value.Goals as goal

pub returns : goal.returns
unfolding context_value
returns c = search (rules, the_lemmas)
