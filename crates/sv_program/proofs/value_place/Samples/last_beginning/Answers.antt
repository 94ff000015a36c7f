use Rattle.std.proofs.Common.{arith}
use Rattle.sv_program.proofs.Samples.{one_place_less}
use Rattle.sv_program.proofs.value_place.Samples.last_beginning.Goals as goal

pub loop-at-preserved : goal.loop-at-preserved
loop-at-preserved c = (
  omega (arith, c.loop-at.invariant.0),
  one_place_less c.args.self.now.text.now c.args.self.now.steps.now c.loop-at.at c.args.last c.in_ok-can_begin.field-0
      c.in_ok-can_begin.ensures c.if-branch.false c.loop-at.invariant.1,
)
