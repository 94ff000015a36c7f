use Rattle.sv_session.proofs.TreeLemmas.{settled_more}
use Rattle.sv_session.proofs.expiry_queue.Queue.widen.Goals as goal

pub invariant_of-self-2 : goal.invariant_of-self-2
invariant_of-self-2 c = rw c.in-Ok.ensures.items (settled_more c.self.inside.nodes.items c.self.invariant)
