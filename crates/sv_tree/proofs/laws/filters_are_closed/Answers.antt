use Rattle.sv_tree.proofs.Closing.{filters_are_closed}
use Rattle.sv_tree.proofs.laws.filters_are_closed.Goals as goal

pub returns : goal.returns
returns c = filters_are_closed
