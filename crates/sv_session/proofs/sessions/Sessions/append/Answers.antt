use Rattle.std.proofs.Common.{rules, sym, ◌∙◌, ap, subst}
use Rattle.sv_session.specs.Slots.{AreKept, living}
use Rattle.sv_session.proofs.AppendLemmas.{appended, appended_store, closed_kept, closed_store, put_back, same_kept}
use Rattle.sv_session.proofs.StoreLemmas.{store_seen, with_store}
use Rattle.sv_session.proofs.sessions.Sessions.append.Goals as goal

pub invariant_of-self-in_default : goal.invariant_of-self-in_default
invariant_of-self-in_default c =
    subst (λ all. AreKept c.self.inside.serial c.self.inside.count all c.self.inside.ids c.close_gaps.new.queue) (sym c.reserve.ensures.items)
    (closed_kept c.self.inside.limit c.self.inside.interval c.self.inside.serial c.self.inside.count c.self.inside.slots.items c.self.inside.ids c.self.inside.queue c.args.self.now.store (store_seen c.self.view_is) c.self.invariant c.args.session c.requires c.close_gaps.new.slots.items c.in_ok-close_gaps.ensures.slots c.close_gaps.new.queue c.in_ok-close_gaps.ensures.queue)

pub returns-in_default-clause-refused : goal.returns-in_default-clause-refused
returns-in_default-clause-refused c =
    with_store c.self.view_is
    (ap (λ all. record { limit = c.self.inside.limit; interval = c.self.inside.interval; serial = c.self.inside.serial; sessions = living all }) c.reserve.ensures.items
    ∙ closed_store c.self.inside.limit c.self.inside.interval c.self.inside.serial c.self.inside.count c.self.inside.slots.items c.self.inside.ids c.self.inside.queue c.args.self.now.store (store_seen c.self.view_is) c.self.invariant c.args.session c.requires c.close_gaps.new.slots.items c.in_ok-close_gaps.ensures.slots c.close_gaps.new.queue c.in_ok-close_gaps.ensures.queue)

pub invariant_of-self-in_default-enter : goal.invariant_of-self-in_default-enter
invariant_of-self-in_default-enter c =
    subst (λ all. AreKept c.self.inside.serial c.self.inside.count all c.enter.new.self c.close_gaps.new.queue) (sym c.reserve.ensures.items)
    (same_kept c.self.inside.limit c.self.inside.interval c.self.inside.serial c.self.inside.count c.self.inside.slots.items c.self.inside.ids c.self.inside.queue c.args.self.now.store (store_seen c.self.view_is) c.self.invariant c.args.session c.requires c.close_gaps.new.slots.items c.in_ok-close_gaps.ensures.slots c.close_gaps.new.queue c.in_ok-close_gaps.ensures.queue c.enter.new.self c.in_default-enter.ensures.refused)

pub returns-in_default-enter-clause-refused : goal.returns-in_default-enter-clause-refused
returns-in_default-enter-clause-refused c =
    with_store c.self.view_is
    (ap (λ all. record { limit = c.self.inside.limit; interval = c.self.inside.interval; serial = c.self.inside.serial; sessions = living all }) c.reserve.ensures.items
    ∙ closed_store c.self.inside.limit c.self.inside.interval c.self.inside.serial c.self.inside.count c.self.inside.slots.items c.self.inside.ids c.self.inside.queue c.args.self.now.store (store_seen c.self.view_is) c.self.invariant c.args.session c.requires c.close_gaps.new.slots.items c.in_ok-close_gaps.ensures.slots c.close_gaps.new.queue c.in_ok-close_gaps.ensures.queue)

pub invariant_of-self-in_default-push : goal.invariant_of-self-in_default-push
invariant_of-self-in_default-push c =
    put_back c.self.inside.limit c.self.inside.interval c.self.inside.serial c.self.inside.count c.self.inside.slots.items c.self.inside.ids c.self.inside.queue c.args.self.now.store (store_seen c.self.view_is) c.self.invariant c.args.session c.requires c.close_gaps.new.slots.items c.in_ok-close_gaps.ensures.slots c.close_gaps.new.queue c.in_ok-close_gaps.ensures.queue
    c.enter.new.self c.id.result.now c.number.result c.id.ensures c.number.ensures c.in-Ok-enter.ensures.entered
    c.reserve.new.self.items c.reserve.ensures.items c.remove.new.self c.id-in_default-push.result.now c.id-in_default-push.ensures c.remove.ensures c.push.new.self c.in_default-push.ensures.refused

pub returns-in_default-push-clause-refused : goal.returns-in_default-push-clause-refused
returns-in_default-push-clause-refused c =
    with_store c.self.view_is
    (ap (λ all. record { limit = c.self.inside.limit; interval = c.self.inside.interval; serial = c.self.inside.serial; sessions = living all }) c.reserve.ensures.items
    ∙ closed_store c.self.inside.limit c.self.inside.interval c.self.inside.serial c.self.inside.count c.self.inside.slots.items c.self.inside.ids c.self.inside.queue c.args.self.now.store (store_seen c.self.view_is) c.self.invariant c.args.session c.requires c.close_gaps.new.slots.items c.in_ok-close_gaps.ensures.slots c.close_gaps.new.queue c.in_ok-close_gaps.ensures.queue)

pub invariant_of-self-2 : goal.invariant_of-self-2
invariant_of-self-2 c =
    appended c.self.inside.limit c.self.inside.interval c.self.inside.serial c.self.inside.count c.self.inside.slots.items c.self.inside.ids c.self.inside.queue c.args.self.now.store (store_seen c.self.view_is) c.self.invariant c.args.session c.requires c.close_gaps.new.slots.items c.in_ok-close_gaps.ensures.slots c.close_gaps.new.queue c.in_ok-close_gaps.ensures.queue
    c.enter.new.self c.id.result.now c.number.result c.id.ensures c.number.ensures c.in-Ok-enter.ensures.entered
    c.reserve.new.self.items c.push-2.new.slots.items c.reserve.ensures.items c.push-2.ensures c.due.result c.due.ensures c.push.new.self c.in-Ok-push.ensures.added
    c.len-self-inside.result (c.len-self-inside.ensures ∙ search rules)

pub returns-clause-added : goal.returns-clause-added
returns-clause-added c =
    with_store c.self.view_is
    (appended_store c.self.inside.limit c.self.inside.interval c.self.inside.serial c.self.inside.count c.self.inside.slots.items c.self.inside.ids c.self.inside.queue c.args.self.now.store (store_seen c.self.view_is) c.self.invariant c.args.session c.requires c.close_gaps.new.slots.items c.in_ok-close_gaps.ensures.slots c.close_gaps.new.queue c.in_ok-close_gaps.ensures.queue c.reserve.new.self.items c.push-2.new.slots.items c.reserve.ensures.items c.push-2.ensures)
