use Rattle.std.proofs.Common.{ap, set, ◌∙◌}
use Rattle.std.specs.Vec.{with_item}
use Rattle.std.proofs.lemmas.List.{with_items_is}
use Rattle.sv_session.specs.Order.{Waiting}
use Rattle.sv_session.proofs.TreeLemmas.{others_settled, owns, owns_length, owns_set}
use Rattle.sv_session.proofs.expiry_queue.Queue.put.Goals as goal

pub settle-requires-clause-others : goal.settle-requires-clause-others
settle-requires-clause-others c =
    rw c.as_mut_slice.ensures.value (others_settled c.self.inside.nodes.items c.args.place c.args.due c.index.result.now c.index.ensures c.self.invariant)

pub returns : goal.returns
returns c =
    (ap owns (with_items_is (with_item c.self.inside.nodes c.args.place (record { own = c.args.due; least = c.index.result.now.least })) c.settle.new.nodes (owns_length c.settle.new.nodes c.as_mut_slice.result.now c.settle.ensures.own ∙ c.as_mut_slice.ensures.len))
    ∙ (c.settle.ensures.own ∙ (ap owns c.as_mut_slice.ensures.value ∙ owns_set c.self.inside.nodes.items c.args.place (record { own = c.args.due; least = c.index.result.now.least }))))
    ∙ ap (λ (w : Waiting). set w c.args.place c.args.due) c.self.view_is
