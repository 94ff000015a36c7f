use Rattle.std.proofs.Common.{MatchOption, ap, subst, ◌∙◌}
use Rattle.sv_session.specs.Order.{IsFirst, NoneWaits, Waiting}
use Rattle.sv_session.specs.Tree.{least_at}
use Rattle.sv_session.proofs.TreeLemmas.{root_knows}
use Rattle.sv_session.proofs.expiry_queue.Queue.least.Goals as goal

pub returns : goal.returns
returns c =
    subst (λ (w : Waiting). MatchOption c.least_at.result (NoneWaits w) (IsFirst w)) c.self.view_is
    (root_knows c.self.inside.nodes.items c.self.invariant c.least_at.result (c.least_at.ensures ∙ ap (λ nodes. least_at nodes 0) c.as_slice.ensures.value))
