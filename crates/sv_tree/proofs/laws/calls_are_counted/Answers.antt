use Rattle.sv_tree.proofs.Counting.{calls_are_counted}
use Rattle.sv_tree.proofs.laws.calls_are_counted.Goals as goal

pub returns : goal.returns
returns c = calls_are_counted
