use Rattle.std.proofs.Common.{ap, sym, refl, ◌∙◌}
use Rattle.std.specs.Option.{option_copied}
use Rattle.sv_mapping.proofs.ContextIndexChoice.{chosen-here, chosen-up, chosen_in}
use Rattle.sv_mapping.proofs.context_places.Places.chosen.Goals as goal

pub returns-in-Some-place_of : goal.returns-in-Some-place_of
returns-in-Some-place_of c = λ paths are.
    let front = c.in-Some.front.now in
    let kept = rw c.in-Some.is at (c.loop-rest.invariant paths are) in
    sym (kept ∙ chosen-here paths front c.in-Some-place_of.place (sym (c.place_of.ensures paths are) ∙ c.in-Some-place_of.is))

pub loop-rest-preserved : goal.loop-rest-preserved
loop-rest-preserved c = λ paths are.
    let front = c.in-Some.front.now in
    let kept = rw c.in-Some.is at (c.loop-rest.invariant paths are) in
    kept ∙ chosen-up paths front (option_copied c.outer-rest.result) c.outer-rest.ensures.serves (sym (c.place_of.ensures paths are) ∙ c.in_default-place_of.is)
