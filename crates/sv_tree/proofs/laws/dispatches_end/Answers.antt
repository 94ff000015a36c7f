use Rattle.sv_tree.proofs.Nesting.{dispatches_end}
use Rattle.sv_tree.proofs.laws.dispatches_end.Goals as goal

pub returns : goal.returns
returns c = dispatches_end
