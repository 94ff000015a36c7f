use Rattle.sv_tree.proofs.Serving.{only_serving_are_called}
use Rattle.sv_tree.proofs.laws.only_serving_are_called.Goals as goal

pub returns : goal.returns
returns c = only_serving_are_called
