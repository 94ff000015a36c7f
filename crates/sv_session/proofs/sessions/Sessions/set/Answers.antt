use Rattle.std.proofs.Common.{refl, ◌∙◌, sym}
use Rattle.sv_session.specs.Attributes.{with_named}
use Rattle.sv_session.proofs.KeptLemmas.{kept_same}
use Rattle.sv_session.proofs.SlotLemmas.{at_there, none_there}
use Rattle.sv_session.proofs.StoreLemmas.{changed_at, fitting_at, not_set, store_seen, too_large_at, unchanged_at, value_at, with_store}
use Rattle.sv_session.proofs.sessions.Sessions.set.Goals as goal

pub returns-in_default : goal.returns-in_default
returns-in_default c =
    (not_set c.args.number c.args.self.now.store (none_there c.args.number c.self.inside.limit c.self.inside.interval c.self.inside.serial c.self.inside.slots.items c.as_slice.result.now c.args.self.now.store c.as_slice.ensures.value (store_seen c.self.view_is) c.self.invariant.rise c.in_default.ensures.place) c.args.name.now c.args.value.now, refl)

pub returns-then-is_too_large : goal.returns-then-is_too_large
returns-then-is_too_large c =
    (too_large_at c.args.number c.in-Some.place c.self.inside.limit c.self.inside.interval c.self.inside.serial c.self.inside.slots.items c.args.self.now.store (store_seen c.self.view_is) c.index.result.now (at_there c.args.number c.self.inside.serial c.self.inside.slots.items c.as_slice.result.now c.in-Some.place c.index.result.now c.as_slice.ensures.value c.self.invariant.rise c.in-Some.ensures.place c.index.ensures) c.args.name.now c.args.value.now c.if-is_too_large.ensures, refl)

pub returns-in_default-set_value : goal.returns-in_default-set_value
returns-in_default-set_value c = (
  fitting_at c.args.number c.in-Some.place c.self.inside.limit c.self.inside.interval c.self.inside.serial c.self.inside.slots.items c.args.self.now.store (store_seen c.self.view_is) c.index.result.now (at_there c.args.number c.self.inside.serial c.self.inside.slots.items c.as_slice.result.now c.in-Some.place c.index.result.now c.as_slice.ensures.value c.self.invariant.rise c.in-Some.ensures.place c.index.ensures) c.args.name.now c.args.value.now (sym c.if-is_too_large.ensures),
  with_store c.self.view_is
      (unchanged_at c.args.number c.in-Some.place c.self.inside.limit c.self.inside.interval c.self.inside.serial c.self.inside.slots.items c.args.self.now.store (store_seen c.self.view_is) c.index_mut.result.now (at_there c.args.number c.self.inside.serial c.self.inside.slots.items c.as_slice.result.now c.in-Some.place c.index_mut.result.now c.as_slice.ensures.value c.self.invariant.rise c.in-Some.ensures.place c.index_mut.ensures.value) c.index_mut.ensures.value c.set_value.new.self c.in_default-set_value.ensures.refused),
)

pub invariant_of-self : goal.invariant_of-self
invariant_of-self c =
    kept_same c.self.inside.serial c.self.inside.count c.args.number c.in-Some.place c.self.inside.slots.items c.self.inside.ids c.self.inside.queue c.index_mut.result.now c.self.invariant c.index_mut.ensures.value (at_there c.args.number c.self.inside.serial c.self.inside.slots.items c.as_slice.result.now c.in-Some.place c.index_mut.result.now c.as_slice.ensures.value c.self.invariant.rise c.in-Some.ensures.place c.index_mut.ensures.value) (λ session. session) (λ _. refl) (λ _. refl) (λ _. refl) c.set_value.new.self c.in_default-set_value.ensures.refused

pub invariant_of-self-2 : goal.invariant_of-self-2
invariant_of-self-2 c =
    kept_same c.self.inside.serial c.self.inside.count c.args.number c.in-Some.place c.self.inside.slots.items c.self.inside.ids c.self.inside.queue c.index_mut.result.now c.self.invariant c.index_mut.ensures.value (at_there c.args.number c.self.inside.serial c.self.inside.slots.items c.as_slice.result.now c.in-Some.place c.index_mut.result.now c.as_slice.ensures.value c.self.invariant.rise c.in-Some.ensures.place c.index_mut.ensures.value) (λ session. record session { attributes = with_named c.args.name.now c.args.value.now session.attributes }) (λ _. refl) (λ _. refl) (λ _. refl) c.set_value.new.self c.in-Ok.ensures.set

pub returns : goal.returns
returns c = (
  fitting_at c.args.number c.in-Some.place c.self.inside.limit c.self.inside.interval c.self.inside.serial c.self.inside.slots.items c.args.self.now.store (store_seen c.self.view_is) c.index.result.now (at_there c.args.number c.self.inside.serial c.self.inside.slots.items c.as_slice.result.now c.in-Some.place c.index.result.now c.as_slice.ensures.value c.self.invariant.rise c.in-Some.ensures.place c.index.ensures) c.args.name.now c.args.value.now (sym c.if-is_too_large.ensures),
  c.in-Ok.ensures.value ∙ value_at c.args.number c.in-Some.place c.self.inside.limit c.self.inside.interval c.self.inside.serial c.self.inside.slots.items c.args.self.now.store (store_seen c.self.view_is) c.index_mut.result.now (at_there c.args.number c.self.inside.serial c.self.inside.slots.items c.as_slice.result.now c.in-Some.place c.index_mut.result.now c.as_slice.ensures.value c.self.invariant.rise c.in-Some.ensures.place c.index_mut.ensures.value) c.args.name.now,
  with_store c.self.view_is
      (changed_at c.args.number c.in-Some.place c.self.inside.limit c.self.inside.interval c.self.inside.serial c.self.inside.slots.items c.args.self.now.store (store_seen c.self.view_is) c.index_mut.result.now (at_there c.args.number c.self.inside.serial c.self.inside.slots.items c.as_slice.result.now c.in-Some.place c.index_mut.result.now c.as_slice.ensures.value c.self.invariant.rise c.in-Some.ensures.place c.index_mut.ensures.value) (λ session. record session { attributes = with_named c.args.name.now c.args.value.now session.attributes }) c.set_value.new.self c.in-Ok.ensures.set),
)
