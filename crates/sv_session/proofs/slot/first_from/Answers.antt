use Rattle.std.proofs.Common.{◌+◌, ◌-◌, ◌/◌, ◌<◌, length, arith}
use Rattle.sv_session.proofs.SlotLemmas.{greater_down, lesser_up}
use Rattle.sv_session.proofs.slot.first_from.Goals as goal

pub loop-low-preserved-then-number : goal.loop-low-preserved-then-number
loop-low-preserved-then-number c =
    let middle = c.loop-low.low + (c.loop-low.high - c.loop-low.low) / 2 in
    let under : middle < length c.args.slots.now = omega (arith, c.loop-low-test.true, c.loop-low.invariant.1) in (
      omega (arith, c.loop-low-test.true),
      c.loop-low.invariant.1,
      λ bound rise k d within. (
        λ less. lesser_up c.args.number bound c.args.slots.now middle c.index-slots-middle.result rise under c.index-slots-middle.is (omega (arith, c.if-number.true, c.number.ensures)) k d (omega (arith, less)),
        (c.loop-low.invariant.2 bound rise k d within).1,
      ),
    )

pub loop-low-preserved : goal.loop-low-preserved
loop-low-preserved c =
    let middle = c.loop-low.low + (c.loop-low.high - c.loop-low.low) / 2 in
    let under : middle < length c.args.slots.now = omega (arith, c.loop-low-test.true, c.loop-low.invariant.1) in (
      omega (arith, c.loop-low-test.true),
      omega (arith, under),
      λ bound rise k d within. (
        (c.loop-low.invariant.2 bound rise k d within).0,
        λ more. greater_down c.args.number bound c.args.slots.now middle c.index-slots-middle.result rise under c.index-slots-middle.is (omega (arith, c.if-number.false, c.number.ensures)) k d more within,
      ),
    )
