use Rattle.sv_difference.proofs.ExampleLemmas.{examples_changed}
use Rattle.sv_difference.proofs.laws.reported_examples_are_changed.Goals as goal

pub returns : goal.returns
returns c = examples_changed c.differences_are_right.ensures
