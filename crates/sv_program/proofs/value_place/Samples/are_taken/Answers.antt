use Rattle.std.proofs.Common.{arith}
use Rattle.sv_program.proofs.Samples.{one_bracket_more}
use Rattle.sv_program.proofs.value_place.Samples.are_taken.Goals as goal

pub loop-count-preserved : goal.loop-count-preserved
loop-count-preserved c = (
  omega (arith, c.loop-count-test.true),
  one_bracket_more c.args.self.now.steps.now c.args.before.now c.args.self.now.closers.now c.loop-count.count c.in_ok-both_taken.field-0
      c.requires c.loop-count.invariant.1 c.in_ok-both_taken.ensures c.if-branch.false,
)
