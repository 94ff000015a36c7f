use Rattle.sv_tree.proofs.Ending.{endings_are_kept}
use Rattle.sv_tree.proofs.laws.endings_are_kept.Goals as goal

pub returns : goal.returns
returns c = endings_are_kept
