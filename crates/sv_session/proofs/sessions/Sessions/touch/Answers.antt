use Rattle.std.proofs.Common.{refl, ap}
use Rattle.sv_session.proofs.KeptLemmas.{accessed, kept_changed}
use Rattle.sv_session.proofs.SlotLemmas.{at_there, none_there}
use Rattle.sv_session.proofs.StoreLemmas.{changed_at, is_found, nothing_changed, store_seen, with_store}
use Rattle.sv_session.proofs.sessions.Sessions.touch.Goals as goal

pub returns-in_default-clause-left : goal.returns-in_default-clause-left
returns-in_default-clause-left c =
    ap (λ store. record c.args.self.now { store = store })
    (nothing_changed c.args.number c.args.self.now.store (none_there c.args.number c.self.inside.limit c.self.inside.interval c.self.inside.serial c.self.inside.slots.items c.as_slice.result.now c.args.self.now.store c.as_slice.ensures.value (store_seen c.self.view_is) c.self.invariant.rise c.in_default.ensures.place) (λ session. record session { last_access = c.args.now }))

pub invariant_of-self : goal.invariant_of-self
invariant_of-self c =
    kept_changed c.self.inside.serial c.self.inside.count c.args.number c.in-Some.place c.self.inside.slots.items c.self.inside.ids c.self.inside.queue c.index_mut.result.now c.self.invariant c.index_mut.ensures.value (at_there c.args.number c.self.inside.serial c.self.inside.slots.items c.as_slice.result.now c.in-Some.place c.index_mut.result.now c.as_slice.ensures.value c.self.invariant.rise c.in-Some.ensures.place c.index_mut.ensures.value) (λ session. record session { last_access = c.args.now }) (λ _. refl) (λ _. refl) c.touch.new.self c.touch.ensures c.put.new.self
    (accessed c.self.inside.serial c.self.inside.count c.args.number c.in-Some.place c.self.inside.slots.items c.self.inside.ids c.self.inside.queue c.index_mut.result.now c.self.invariant c.index_mut.ensures.value (at_there c.args.number c.self.inside.serial c.self.inside.slots.items c.as_slice.result.now c.in-Some.place c.index_mut.result.now c.as_slice.ensures.value c.self.invariant.rise c.in-Some.ensures.place c.index_mut.ensures.value) c.args.now c.put.new.self c.put.ensures)

pub returns-clause-found : goal.returns-clause-found
returns-clause-found c =
    is_found c.args.number c.in-Some.place c.self.inside.limit c.self.inside.interval c.self.inside.serial c.self.inside.slots.items c.args.self.now.store (store_seen c.self.view_is) c.index_mut.result.now (at_there c.args.number c.self.inside.serial c.self.inside.slots.items c.as_slice.result.now c.in-Some.place c.index_mut.result.now c.as_slice.ensures.value c.self.invariant.rise c.in-Some.ensures.place c.index_mut.ensures.value)

pub returns-clause-left : goal.returns-clause-left
returns-clause-left c =
    with_store c.self.view_is
    (changed_at c.args.number c.in-Some.place c.self.inside.limit c.self.inside.interval c.self.inside.serial c.self.inside.slots.items c.args.self.now.store (store_seen c.self.view_is) c.index_mut.result.now (at_there c.args.number c.self.inside.serial c.self.inside.slots.items c.as_slice.result.now c.in-Some.place c.index_mut.result.now c.as_slice.ensures.value c.self.invariant.rise c.in-Some.ensures.place c.index_mut.ensures.value) (λ session. record session { last_access = c.args.now }) c.touch.new.self c.touch.ensures)
