use Rattle.std.proofs.Common.{◌-◌, Some, None, refl, ◌∙◌, sym, ap, subst, set, [], arith, length, ◌<◌}
use Rattle.sv_session.specs.declared.slot.Slot.{Slot}
use Rattle.sv_session.specs.Slots.{AreKept, living}
use Rattle.sv_session.proofs.KeptLemmas.{kept_left, gone_same, some_counted}
use Rattle.sv_session.proofs.SlotLemmas.{at_there, none_there, same_slot}
use Rattle.sv_session.proofs.StoreLemmas.{ended_at, left_at, nothing_left_out, store_seen, with_store}
use Rattle.sv_session.proofs.sessions.Sessions.end.Goals as goal

pub returns-in_err-place-clause-left : goal.returns-in_err-place-clause-left
returns-in_err-place-clause-left c =
    ap (λ store. record c.args.self.now { store = store })
    (nothing_left_out c.args.number c.args.self.now.store (none_there c.args.number c.self.inside.limit c.self.inside.interval c.self.inside.serial c.self.inside.slots.items c.as_slice.result.now c.args.self.now.store c.as_slice.ensures.value (store_seen c.self.view_is) c.self.invariant.rise c.in_err-place.ensures.place))

pub overflow_sub-self : goal.overflow_sub-self
overflow_sub-self c =
    some_counted c.self.inside.serial c.self.inside.count c.args.number c.in_ok-place.place c.self.inside.slots.items c.self.inside.ids c.self.inside.queue c.index.result.now c.self.invariant (at_there c.args.number c.self.inside.serial c.self.inside.slots.items c.as_slice.result.now c.in_ok-place.place c.index.result.now c.as_slice.ensures.value c.self.invariant.rise c.in_ok-place.ensures.place c.index.ensures)

pub invariant_of-self : goal.invariant_of-self
invariant_of-self c =
    subst (λ slot. AreKept c.self.inside.serial (c.self.inside.count - 1) (set c.self.inside.slots.items c.in_ok-place.place slot) c.remove.new.self c.put.new.self) (sym c.end.ensures.left)
    (kept_left c.self.inside.serial c.self.inside.count c.args.number c.in_ok-place.place c.self.inside.slots.items c.self.inside.ids c.self.inside.queue c.index_mut.result.now c.self.invariant c.index_mut.ensures.value (at_there c.args.number c.self.inside.serial c.self.inside.slots.items c.as_slice.result.now c.in_ok-place.place c.index_mut.result.now c.as_slice.ensures.value c.self.invariant.rise c.in_ok-place.ensures.place c.index_mut.ensures.value) (record c.index_mut.result.now.kept { id = []; saved = None; attributes = [] }) refl c.remove.new.self
    (gone_same c.self.inside.ids c.remove.new.self c.index_mut.result.now.kept.id c.id.result.now (c.id.ensures ∙ ap (λ (s : Slot). s.kept.id) (same_slot c.self.inside.slots.items c.in_ok-place.place c.index.result.now c.index_mut.result.now (subst (λ all. c.in_ok-place.place < length all) c.as_slice.ensures.value c.in_ok-place.ensures.bound) c.index.ensures c.index_mut.ensures.value)) c.remove.ensures)
    c.put.new.self c.put.ensures (c.self.inside.count - 1)
    (omega (arith, some_counted c.self.inside.serial c.self.inside.count c.args.number c.in_ok-place.place c.self.inside.slots.items c.self.inside.ids c.self.inside.queue c.index.result.now c.self.invariant (at_there c.args.number c.self.inside.serial c.self.inside.slots.items c.as_slice.result.now c.in_ok-place.place c.index.result.now c.as_slice.ensures.value c.self.invariant.rise c.in_ok-place.ensures.place c.index.ensures))))

pub returns-clause-ended : goal.returns-clause-ended
returns-clause-ended c =
    ap Some c.end.ensures.told ∙ ended_at c.args.number c.in_ok-place.place c.self.inside.limit c.self.inside.interval c.self.inside.serial c.self.inside.slots.items c.args.self.now.store (store_seen c.self.view_is) c.index_mut.result.now (at_there c.args.number c.self.inside.serial c.self.inside.slots.items c.as_slice.result.now c.in_ok-place.place c.index_mut.result.now c.as_slice.ensures.value c.self.invariant.rise c.in_ok-place.ensures.place c.index_mut.ensures.value)

pub returns-clause-left : goal.returns-clause-left
returns-clause-left c =
    with_store c.self.view_is
    (ap (λ slot. record { limit = c.self.inside.limit; interval = c.self.inside.interval; serial = c.self.inside.serial; sessions = living (set c.self.inside.slots.items c.in_ok-place.place slot) }) c.end.ensures.left
    ∙ left_at c.args.number c.in_ok-place.place c.self.inside.limit c.self.inside.interval c.self.inside.serial c.self.inside.slots.items c.args.self.now.store (store_seen c.self.view_is) c.index_mut.result.now (at_there c.args.number c.self.inside.serial c.self.inside.slots.items c.as_slice.result.now c.in_ok-place.place c.index_mut.result.now c.as_slice.ensures.value c.self.invariant.rise c.in_ok-place.ensures.place c.index_mut.ensures.value) (record c.index_mut.result.now.kept { id = []; saved = None; attributes = [] }))
