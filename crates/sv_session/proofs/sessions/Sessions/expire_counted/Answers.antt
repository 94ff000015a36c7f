use Rattle.std.proofs.Common.{◌∙◌, sym, ap}
use Rattle.sv_session.proofs.JudgeLemmas.{ends_due, later_ended, later_left, leaves_rest, none_ended, none_judged, none_left, one_judged}
use Rattle.sv_session.proofs.StoreLemmas.{store_seen}
use Rattle.sv_session.proofs.sessions.Sessions.expire_counted.Goals as goal

pub returns-in_default-clause-ended : goal.returns-in_default-clause-ended
returns-in_default-clause-ended c =
    none_ended c.self.inside.limit c.self.inside.interval c.self.inside.serial c.self.inside.count c.self.inside.slots.items c.self.inside.ids c.self.inside.queue c.args.self.now.store (store_seen c.self.view_is) c.self.invariant c.args.now c.in_default.ensures

pub returns-in_default-clause-judged : goal.returns-in_default-clause-judged
returns-in_default-clause-judged c =
    none_judged c.self.inside.limit c.self.inside.interval c.self.inside.serial c.self.inside.count c.self.inside.slots.items c.self.inside.ids c.self.inside.queue c.args.self.now.store (store_seen c.self.view_is) c.self.invariant c.args.now c.in_default.ensures c.args.judged

pub returns-in_default-clause-left : goal.returns-in_default-clause-left
returns-in_default-clause-left c =
    ap (λ store. record c.args.self.now { store = store })
    (none_left c.self.inside.limit c.self.inside.interval c.self.inside.serial c.self.inside.count c.self.inside.slots.items c.self.inside.ids c.self.inside.queue c.args.self.now.store (store_seen c.self.view_is) c.self.invariant c.args.now c.in_default.ensures)

pub returns-then-not-has_waited-clause-ended : goal.returns-then-not-has_waited-clause-ended
returns-then-not-has_waited-clause-ended c =
    later_ended c.self.inside.limit c.self.inside.interval c.self.inside.serial c.self.inside.count c.self.inside.slots.items c.self.inside.ids c.self.inside.queue c.args.self.now.store (store_seen c.self.view_is) c.self.invariant c.args.now c.in-Some.due c.in-Some.ensures (sym c.has_waited.ensures ∙ c.if-not-has_waited.true)

pub returns-then-not-has_waited-clause-judged : goal.returns-then-not-has_waited-clause-judged
returns-then-not-has_waited-clause-judged c =
    one_judged c.self.inside.limit c.self.inside.interval c.self.inside.serial c.self.inside.count c.self.inside.slots.items c.self.inside.ids c.self.inside.queue c.args.self.now.store (store_seen c.self.view_is) c.self.invariant c.args.now c.in-Some.due c.in-Some.ensures c.args.judged c.saturating_add-judged.result c.saturating_add-judged.ensures

pub returns-then-not-has_waited-clause-left : goal.returns-then-not-has_waited-clause-left
returns-then-not-has_waited-clause-left c =
    ap (λ store. record c.args.self.now { store = store })
    (later_left c.self.inside.limit c.self.inside.interval c.self.inside.serial c.self.inside.count c.self.inside.slots.items c.self.inside.ids c.self.inside.queue c.args.self.now.store (store_seen c.self.view_is) c.self.invariant c.args.now c.in-Some.due c.in-Some.ensures (sym c.has_waited.ensures ∙ c.if-not-has_waited.true))

pub returns-clause-ended : goal.returns-clause-ended
returns-clause-ended c =
    c.end-ended.ensures.ended ∙ ends_due c.self.inside.limit c.self.inside.interval c.self.inside.serial c.self.inside.count c.self.inside.slots.items c.self.inside.ids c.self.inside.queue c.args.self.now.store (store_seen c.self.view_is) c.self.invariant c.args.now c.in-Some.due c.in-Some.ensures (sym c.has_waited.ensures ∙ c.if-not-has_waited.false)

pub returns-clause-judged : goal.returns-clause-judged
returns-clause-judged c =
    one_judged c.self.inside.limit c.self.inside.interval c.self.inside.serial c.self.inside.count c.self.inside.slots.items c.self.inside.ids c.self.inside.queue c.args.self.now.store (store_seen c.self.view_is) c.self.invariant c.args.now c.in-Some.due c.in-Some.ensures c.args.judged c.saturating_add-judged.result c.saturating_add-judged.ensures

pub returns-clause-left : goal.returns-clause-left
returns-clause-left c =
    c.end-ended.ensures.left ∙ ap (λ store. record c.args.self.now { store = store })
    (leaves_rest c.self.inside.limit c.self.inside.interval c.self.inside.serial c.self.inside.count c.self.inside.slots.items c.self.inside.ids c.self.inside.queue c.args.self.now.store (store_seen c.self.view_is) c.self.invariant c.args.now c.in-Some.due c.in-Some.ensures (sym c.has_waited.ensures ∙ c.if-not-has_waited.false))
