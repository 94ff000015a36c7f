use Rattle.sv_descriptor.proofs.Differing.{distinct-more, not-back, repeats-found}
use Rattle.sv_descriptor.proofs.names.distinct_names.Goals as goal

pub returns-then-not-branch : goal.returns-then-not-branch
returns-then-not-branch g c =
    let known = not-back _ _ _ c.if-not-branch.true (rw c.name.ensures at c.in_ok-enter.ensures.new) in
    repeats-found g.N.Named.its_name c.args.items.now c.loop-item.names c.loop-item.item-index c.item-item.result c.loop-item-test.true c.item-item.is c.loop-item.invariant known

pub loop-item-preserved : goal.loop-item-preserved
loop-item-preserved g c =
    let is_new = not-back _ _ _ c.if-not-branch.false (rw c.name.ensures at c.in_ok-enter.ensures.new) in
    distinct-more g.N.Named.its_name c.args.items.now c.loop-item.names c.enter.new.self c.loop-item.item-index c.item-item.result c.loop-item-test.true c.item-item.is c.loop-item.invariant (rw c.name.ensures at c.in_ok-enter.ensures.entered) is_new
