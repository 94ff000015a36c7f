use Rattle.sv_tree.proofs.Following.{events_are_told}
use Rattle.sv_tree.proofs.laws.events_are_told.Goals as goal

pub returns : goal.returns
returns c = events_are_told
