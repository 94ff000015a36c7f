use Rattle.std.proofs.Common.{None, refl, ◌∙◌, ap}
use Rattle.sv_session.proofs.KeptLemmas.{kept_same}
use Rattle.sv_session.proofs.SlotLemmas.{at_there, none_there}
use Rattle.sv_session.proofs.StoreLemmas.{changed_at, nothing_changed, read_at, store_seen, with_store}
use Rattle.sv_session.proofs.sessions.Sessions.take_saved.Goals as goal

pub returns-in_err-place-clause-left : goal.returns-in_err-place-clause-left
returns-in_err-place-clause-left c =
    ap (λ store. record c.args.self.now { store = store })
    (nothing_changed c.args.number c.args.self.now.store (none_there c.args.number c.self.inside.limit c.self.inside.interval c.self.inside.serial c.self.inside.slots.items c.as_slice.result.now c.args.self.now.store c.as_slice.ensures.value (store_seen c.self.view_is) c.self.invariant.rise c.in_err-place.ensures.place) (λ session. record session { saved = None }))

pub invariant_of-self : goal.invariant_of-self
invariant_of-self c =
    kept_same c.self.inside.serial c.self.inside.count c.args.number c.in_ok-place.place c.self.inside.slots.items c.self.inside.ids c.self.inside.queue c.index_mut.result.now c.self.invariant c.index_mut.ensures.value (at_there c.args.number c.self.inside.serial c.self.inside.slots.items c.as_slice.result.now c.in_ok-place.place c.index_mut.result.now c.as_slice.ensures.value c.self.invariant.rise c.in_ok-place.ensures.place c.index_mut.ensures.value) (λ session. record session { saved = None }) (λ _. refl) (λ _. refl) (λ _. refl) c.take_saved.new.self c.take_saved.ensures.left

pub returns-clause-left : goal.returns-clause-left
returns-clause-left c =
    with_store c.self.view_is
    (changed_at c.args.number c.in_ok-place.place c.self.inside.limit c.self.inside.interval c.self.inside.serial c.self.inside.slots.items c.args.self.now.store (store_seen c.self.view_is) c.index_mut.result.now (at_there c.args.number c.self.inside.serial c.self.inside.slots.items c.as_slice.result.now c.in_ok-place.place c.index_mut.result.now c.as_slice.ensures.value c.self.invariant.rise c.in_ok-place.ensures.place c.index_mut.ensures.value) (λ session. record session { saved = None }) c.take_saved.new.self c.take_saved.ensures.left)

pub returns-clause-taken : goal.returns-clause-taken
returns-clause-taken c =
    c.take_saved.ensures.taken ∙ read_at c.args.number c.in_ok-place.place c.self.inside.limit c.self.inside.interval c.self.inside.serial c.self.inside.slots.items c.args.self.now.store (store_seen c.self.view_is) c.index_mut.result.now (at_there c.args.number c.self.inside.serial c.self.inside.slots.items c.as_slice.result.now c.in_ok-place.place c.index_mut.result.now c.as_slice.ensures.value c.self.invariant.rise c.in_ok-place.ensures.place c.index_mut.ensures.value) (λ session. session.saved)
