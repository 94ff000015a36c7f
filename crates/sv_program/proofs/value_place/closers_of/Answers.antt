use Rattle.std.proofs.Common.{rules}
use Rattle.sv_program.proofs.Samples.{closers_more}
use Rattle.sv_program.proofs.value_place.closers_of.Goals as goal

pub loop-step-preserved : goal.loop-step-preserved
loop-step-preserved c =
    closers_more c.args.steps.now c.loop-step.step-index c.step-item.result c.loop-step.brackets.items _ c.loop-step-test.true c.step-item.is c.loop-step.invariant (search rules)
