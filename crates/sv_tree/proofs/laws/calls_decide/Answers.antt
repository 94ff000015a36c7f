use Rattle.sv_tree.proofs.Deciding.{calls_decide}
use Rattle.sv_tree.proofs.laws.calls_decide.Goals as goal

pub returns : goal.returns
returns c = calls_decide
