use Rattle.std.proofs.Common.{◌≤◌, ◌∙◌, ap, find, subst, arith}
use Rattle.std.specs.Option.{option_map}
use Rattle.std.proofs.lemmas.List.{take_rest}
use Rattle.sv_session.specs.declared.slot.Slot.{Slot}
use Rattle.sv_session.specs.Slots.{IsFirstFrom}
use Rattle.sv_session.proofs.AfterLemmas.{after_place, none_after}
use Rattle.sv_session.proofs.slot.living_after.Goals as goal

pub returns-in_err-next : goal.returns-in_err-next
returns-in_err-next c = λ high fits rise.
    let most : high ≤ c.args.number = omega (arith, fits, c.in_err-next.ensures) in
    rw c.from_residual.ensures (none_after c.args.number 0 high c.args.slots.now most rise)

pub returns : goal.returns
returns c = λ high fits rise.
    ap (option_map (λ (s : Slot). s.kept))
    (c.first_living.ensures ∙ ap (find (λ (s : Slot). s.live)) (take_rest c.args.slots.now c.first_from-place.result))
    ∙ after_place c.args.number c.first_from-place.result c.args.slots.now
    (subst (λ n. IsFirstFrom n c.args.slots.now c.first_from-place.result) c.in_ok-next.ensures.1 (c.first_from-place.ensures.first high rise))
