use Rattle.std.proofs.Common.{arith}
use Rattle.sv_descriptor.proofs.Differing.{not-back, texts_before_repeat-next}
use Rattle.sv_descriptor.proofs.names.first_repeat.Goals as goal

pub loop-place-preserved : goal.loop-place-preserved
loop-place-preserved g c =
    let is_new = not-back _ _ _ c.if-not-branch.false (rw c.name.ensures at c.in_ok-enter.ensures.new) in
    let next = texts_before_repeat-next g.N.Named.its_name c.args.items.now c.loop-place.names c.enter.new.self c.loop-place.place c.index-items-place.result c.loop-place-test.true c.index-items-place.is (rw c.name.ensures at c.in_ok-enter.ensures.entered) is_new in
    let before = c.loop-place.invariant in
    omega arith
