use Rattle.sv_tree.proofs.Nesting.{dispatches_nest}
use Rattle.sv_tree.proofs.laws.dispatches_nest.Goals as goal

pub returns : goal.returns
returns c = dispatches_nest
