use Rattle.sv_tree.proofs.Forwarding.{forwards_begin_empty}
use Rattle.sv_tree.proofs.laws.forwards_begin_empty.Goals as goal

pub returns : goal.returns
returns c = forwards_begin_empty
