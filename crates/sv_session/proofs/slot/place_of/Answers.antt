use Rattle.std.proofs.Common.{◌∙◌, ap, arith}
use Rattle.sv_session.specs.declared.slot.Slot.{Slot}
use Rattle.sv_session.proofs.SlotLemmas.{get_or-any, none_from, now_dead}
use Rattle.sv_session.proofs.slot.place_of.Goals as goal

pub returns-then-place-slots-clause-place : goal.returns-then-place-slots-clause-place
returns-then-place-slots-clause-place c = λ high rise.
    none_from c.args.number high c.first_from-place.result c.args.slots.now rise (c.first_from-place.ensures.first high rise)
    (λ d within. absurd (omega (arith, within, c.if-place-slots.true)))

pub returns-then-number-clause-place : goal.returns-then-number-clause-place
returns-then-number-clause-place c = λ high rise.
    none_from c.args.number high c.first_from-place.result c.args.slots.now rise (c.first_from-place.ensures.first high rise)
    (λ d within lives same. c.if-number.true (c.number.ensures ∙ (ap (λ (s : Slot). s.kept.number) (c.index-slots-place.is ∙ get_or-any c.args.slots.now c.first_from-place.result c.index-slots-place.result d within) ∙ same)))

pub returns-clause-place : goal.returns-clause-place
returns-clause-place c = λ high rise.
    none_from c.args.number high c.first_from-place.result c.args.slots.now rise (c.first_from-place.ensures.first high rise)
    (λ d within lives same. now_dead c.args.slots.now c.first_from-place.result c.index-slots-place.result d within c.index-slots-place.is c.if-slot.false lives)
