use Rattle.std.proofs.Common.{sym, ◌∙◌}
use Rattle.sv_chain.proofs.Growing.{doubles-new, doubles-old}
use Rattle.sv_chain.proofs.chain.without_doubles.Goals as goal
use Rattle.sv_chain.proofs.chain.without_doubles.Goals.{then-not-contains+in_ok-push, else-not-contains}

pub loop-place-preserved : goal.loop-place-preserved
loop-place-preserved c =
    elim c.if-not-contains.branch [
      | then-not-contains+in_ok-push w ↦
          let none = rw c.as_slice.ensures.value at (sym c.contains.ensures.value ∙ w.if-not-contains.true) in
          rw w.chain-is (w.in_ok-push.ensures.items ∙ doubles-new c.args.places.now c.loop-place.chain.items c.loop-place.place-index c.loop-place-test.true c.loop-place.invariant none)
      | else-not-contains w ↦
          let found = rw c.as_slice.ensures.value at (sym c.contains.ensures.value ∙ w.if-not-contains.false) in
          rw w.chain-is (doubles-old c.args.places.now c.loop-place.chain.items c.loop-place.place-index c.loop-place-test.true c.loop-place.invariant found)
    ]
