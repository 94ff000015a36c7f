use Rattle.std.proofs.Common.{rules}
use Rattle.std.proofs.lemmas.Fn.{always_returns_same}
use Rattle.sv_lifecycle.specs.Order.{rank_at}
use Rattle.sv_lifecycle.proofs.Ordering.{is_load_order}
use Rattle.sv_lifecycle.proofs.order.load_order.Goals as goal

pub returns : goal.returns
returns c =
    let rank = rank_at c.args.servlets.now in
    is_load_order c.args.servlets.now _ _ c.in_ok-order.ensures c.in_ok-sort_by_key.ensures.permutation
    (c.in_ok-sort_by_key.ensures.sorted rank (always_returns_same _ _ _ (λ a r f' k. search rules)))
    (c.in_ok-sort_by_key.ensures.stable rank (always_returns_same _ _ _ (λ a r f' k. search rules)))
