use Rattle.std.proofs.Common.{rules}
use Rattle.serde_json.specs.declared.value.Value.{the_lemmas}
use Rattle.sv_difference.specs.DifferenceJson.{difference_value}
use Rattle.sv_difference.proofs.values.difference_value.Goals as goal

pub returns : goal.returns
unfolding difference_value
returns c = search (rules, the_lemmas)
