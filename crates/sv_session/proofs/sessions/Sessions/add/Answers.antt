use Rattle.std.proofs.Common.{rules, ◌<◌, sym, subst}
use Rattle.sv_session.specs.Slots.{AreKept}
use Rattle.sv_session.proofs.AddLemmas.{added, added_store, count_below, put_back}
use Rattle.sv_session.proofs.StoreLemmas.{store_seen, with_store}
use Rattle.sv_session.proofs.sessions.Sessions.add.Goals as goal

pub invariant_of-self : goal.invariant_of-self
invariant_of-self c =
    subst (λ slots. AreKept c.self.inside.serial c.self.inside.count slots c.self.inside.ids c.self.inside.queue) (sym c.reserve.ensures.items) c.self.invariant

pub overflow_add-self : goal.overflow_add-self
overflow_add-self c =
    let below : c.self.inside.count < c.self.inside.limit = count_below c.self.inside.limit c.self.inside.interval c.self.inside.serial c.self.inside.count c.self.inside.slots.items c.self.inside.ids c.self.inside.queue c.args.self.now.store (store_seen c.self.view_is) c.self.invariant c.requires.opened.0 c.requires.opened.1 c.args.kept c.requires.opened.2 c.requires.fits in
    search rules

pub invariant_of-self-2 : goal.invariant_of-self-2
invariant_of-self-2 c =
    added c.self.inside.limit c.self.inside.interval c.self.inside.serial c.self.inside.count c.self.inside.slots.items c.self.inside.ids c.self.inside.queue c.args.self.now.store (store_seen c.self.view_is) c.self.invariant c.requires.opened.0 c.requires.opened.1 c.args.kept c.requires.opened.2 c.requires.fits
    c.enter.new.self c.id.result.now c.number.result c.id.ensures c.number.ensures c.in_ok-enter.ensures.entered
    c.reserve.new.self.items c.push-2.new.slots.items c.reserve.ensures.items c.push-2.ensures c.due.result c.due.ensures c.push.new.self c.in-Ok.ensures.added

pub invariant_of-self-in_default : goal.invariant_of-self-in_default
invariant_of-self-in_default c =
    put_back c.self.inside.limit c.self.inside.interval c.self.inside.serial c.self.inside.count c.self.inside.slots.items c.self.inside.ids c.self.inside.queue c.args.self.now.store (store_seen c.self.view_is) c.self.invariant c.requires.opened.0 c.requires.opened.1 c.args.kept c.requires.opened.2 c.requires.fits
    c.enter.new.self c.id.result.now c.number.result c.id.ensures c.number.ensures c.in_ok-enter.ensures.entered
    c.reserve.new.self.items c.reserve.ensures.items c.remove.new.self c.id-in_default.result.now c.id-in_default.ensures c.remove.ensures c.push.new.self c.in_default.ensures.refused

pub returns-clause-added : goal.returns-clause-added
returns-clause-added c =
    with_store c.self.view_is
    (added_store c.self.inside.limit c.self.inside.interval c.self.inside.serial c.self.inside.count c.self.inside.slots.items c.self.inside.ids c.self.inside.queue c.args.self.now.store (store_seen c.self.view_is) c.self.invariant c.requires.opened.0 c.requires.opened.1 c.args.kept c.requires.opened.2 c.requires.fits
    c.reserve.new.self.items c.push-2.new.slots.items c.reserve.ensures.items c.push-2.ensures)
