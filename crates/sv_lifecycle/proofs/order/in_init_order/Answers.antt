use Rattle.std.proofs.Common.{[], ◌∷◌, ◌++◌, sym, ◌∙◌, ap, arith}
use Rattle.std.proofs.lemmas.List.FromFn.{map-range_with_len_more}
use Rattle.sv_journal.specs.declared.calls.Place.TheVariants as places
use Rattle.sv_lifecycle.proofs.order.in_init_order.Goals as goal

pub loop-place-preserved : goal.loop-place-preserved
loop-place-preserved c =
    c.in_ok-push.ensures.items ∙ ap (λ xs. xs ++ places.Filter c.loop-place.place ∷ []) c.loop-place.invariant
    ∙ sym (map-range_with_len_more places.Filter 0 c.loop-place.place c.loop-place.place (omega arith))
