use Rattle.sv_session.specs.declared.slot.Slot.{Slot}
use Rattle.sv_session.specs.Id.{id_text}
use Rattle.std.proofs.Common.{get_or, false, None, [], refl, ◌∙◌, ap, subst, ◌+◌, arith, length, ◌<◌}
use Rattle.sv_session.proofs.KeptLemmas.{kept_renamed, kept_ids, come_and_gone}
use Rattle.sv_session.proofs.SlotLemmas.{at_there, get_or-any, none_there, same_slot}
use Rattle.sv_session.proofs.StoreLemmas.{not_renamed, renamed_at, spent_at, store_seen, unspent_at, with_store}
use Rattle.sv_session.proofs.sessions.Sessions.rename.Goals as goal

abbrev none : Slot
none = record { live = false; kept = record { number = 0; id = []; last_access = 0; caller = None; saved = None; attributes = [] } }

pub returns-in_default : goal.returns-in_default
returns-in_default c =
    (not_renamed c.args.number c.args.self.now.store (none_there c.args.number c.self.inside.limit c.self.inside.interval c.self.inside.serial c.self.inside.slots.items c.as_slice.result.now c.args.self.now.store c.as_slice.ensures.value (store_seen c.self.view_is) c.self.invariant.rise c.in_default.ensures.place), refl)

pub returns-then-self : goal.returns-then-self
returns-then-self c =
    (spent_at c.args.number c.in-Some.place c.self.inside.limit c.self.inside.interval c.self.inside.serial c.self.inside.slots.items c.args.self.now.store (store_seen c.self.view_is) (get_or c.self.inside.slots.items c.in-Some.place none) (at_there c.args.number c.self.inside.serial c.self.inside.slots.items c.as_slice.result.now c.in-Some.place (get_or c.self.inside.slots.items c.in-Some.place none) c.as_slice.ensures.value c.self.invariant.rise c.in-Some.ensures.place (get_or-any c.self.inside.slots.items c.in-Some.place none (get_or c.self.inside.slots.items c.in-Some.place none) (subst (λ all. c.in-Some.place < length all) c.as_slice.ensures.value c.in-Some.ensures.bound))) c.if-self.true, refl)

pub returns-in_default-id_of : goal.returns-in_default-id_of
returns-in_default-id_of c =
    (unspent_at c.args.number c.in-Some.place c.self.inside.limit c.self.inside.interval c.self.inside.serial c.self.inside.slots.items c.args.self.now.store (store_seen c.self.view_is) (get_or c.self.inside.slots.items c.in-Some.place none) (at_there c.args.number c.self.inside.serial c.self.inside.slots.items c.as_slice.result.now c.in-Some.place (get_or c.self.inside.slots.items c.in-Some.place none) c.as_slice.ensures.value c.self.invariant.rise c.in-Some.ensures.place (get_or-any c.self.inside.slots.items c.in-Some.place none (get_or c.self.inside.slots.items c.in-Some.place none) (subst (λ all. c.in-Some.place < length all) c.as_slice.ensures.value c.in-Some.ensures.bound))) c.if-self.false, refl)

pub returns-in_default-enter : goal.returns-in_default-enter
returns-in_default-enter c =
    (unspent_at c.args.number c.in-Some.place c.self.inside.limit c.self.inside.interval c.self.inside.serial c.self.inside.slots.items c.args.self.now.store (store_seen c.self.view_is) (get_or c.self.inside.slots.items c.in-Some.place none) (at_there c.args.number c.self.inside.serial c.self.inside.slots.items c.as_slice.result.now c.in-Some.place (get_or c.self.inside.slots.items c.in-Some.place none) c.as_slice.ensures.value c.self.invariant.rise c.in-Some.ensures.place (get_or-any c.self.inside.slots.items c.in-Some.place none (get_or c.self.inside.slots.items c.in-Some.place none) (subst (λ all. c.in-Some.place < length all) c.as_slice.ensures.value c.in-Some.ensures.bound))) c.if-self.false, c.self.view_is)

pub invariant_of-self : goal.invariant_of-self
invariant_of-self c =
    kept_ids c.self.inside.serial c.self.inside.count c.self.inside.slots.items c.self.inside.ids c.enter.new.self c.self.inside.queue c.self.invariant c.in_default-enter.ensures.refused

pub invariant_of-self-2 : goal.invariant_of-self-2
invariant_of-self-2 c =
    kept_renamed c.self.inside.serial c.self.inside.count c.args.number c.in-Some.place c.self.inside.slots.items c.self.inside.ids c.self.inside.queue c.index_mut.result.now c.self.invariant c.index_mut.ensures.value (at_there c.args.number c.self.inside.serial c.self.inside.slots.items c.as_slice.result.now c.in-Some.place c.index_mut.result.now c.as_slice.ensures.value c.self.invariant.rise c.in-Some.ensures.place c.index_mut.ensures.value) c.args.words c.rename.new.self (c.rename.ensures ∙ ap (λ id. record c.index_mut.result.now.kept { id = id }) c.in-Ok.ensures) (omega (arith, c.self.invariant.fits, c.if-self.false)) c.remove.new.self
    (come_and_gone c.args.number c.self.inside.ids c.enter.new.self c.remove.new.self (id_text c.args.words (c.self.inside.serial + 1)) c.index_mut.result.now.kept.id c.as_str.result.now c.id.result.now
    (c.as_str.ensures ∙ c.in-Ok.ensures) (c.id.ensures ∙ ap (λ (s : Slot). s.kept.id) (same_slot c.self.inside.slots.items c.in-Some.place c.index.result.now c.index_mut.result.now (subst (λ all. c.in-Some.place < length all) c.as_slice.ensures.value c.in-Some.ensures.bound) c.index.ensures c.index_mut.ensures.value)) c.in-Ok-enter.ensures.entered c.remove.ensures)

pub returns : goal.returns
returns c = (
  unspent_at c.args.number c.in-Some.place c.self.inside.limit c.self.inside.interval c.self.inside.serial c.self.inside.slots.items c.args.self.now.store (store_seen c.self.view_is) c.index_mut.result.now (at_there c.args.number c.self.inside.serial c.self.inside.slots.items c.as_slice.result.now c.in-Some.place c.index_mut.result.now c.as_slice.ensures.value c.self.invariant.rise c.in-Some.ensures.place c.index_mut.ensures.value) c.if-self.false,
  with_store c.self.view_is
      (renamed_at c.args.number c.in-Some.place c.self.inside.limit c.self.inside.interval c.self.inside.serial c.self.inside.slots.items c.args.self.now.store (store_seen c.self.view_is) c.index_mut.result.now (at_there c.args.number c.self.inside.serial c.self.inside.slots.items c.as_slice.result.now c.in-Some.place c.index_mut.result.now c.as_slice.ensures.value c.self.invariant.rise c.in-Some.ensures.place c.index_mut.ensures.value) c.args.words c.rename.new.self (c.rename.ensures ∙ ap (λ id. record c.index_mut.result.now.kept { id = id }) c.in-Ok.ensures)),
)
