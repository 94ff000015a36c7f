use Rattle.sv_tree.proofs.Including.{includes_keep}
use Rattle.sv_tree.proofs.laws.includes_keep.Goals as goal

pub returns : goal.returns
returns c = includes_keep
