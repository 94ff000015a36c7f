use Rattle.std.proofs.Common.{arith}
use Rattle.sv_descriptor.proofs.Numbering.{numbered-next}
use Rattle.sv_descriptor.proofs.constraint.number_each.Goals as goal

pub loop-place-preserved : goal.loop-place-preserved
loop-place-preserved c =
    numbered-next c.args.constraints.now c.loop-place.constraints c.loop-place.place c.index-constraints-place.result (omega arith) c.loop-place.invariant
