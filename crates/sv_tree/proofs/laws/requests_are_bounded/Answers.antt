use Rattle.sv_tree.proofs.Bounding.{requests_are_bounded}
use Rattle.sv_tree.proofs.laws.requests_are_bounded.Goals as goal

pub returns : goal.returns
returns c = requests_are_bounded
