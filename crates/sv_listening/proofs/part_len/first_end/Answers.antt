use Rattle.std.proofs.Common.{below_more, sym}
use Rattle.sv_listening.proofs.part_len.first_end.Goals as goal

pub loop-place-preserved : goal.loop-place-preserved
loop-place-preserved c = below_more _ _ c.loop-place.invariant (sym c.if-ends_empty_line.ensures)
