use Rattle.sv_tree.proofs.Following.{tellings_follow}
use Rattle.sv_tree.proofs.laws.tellings_follow.Goals as goal

pub returns : goal.returns
returns c = tellings_follow
