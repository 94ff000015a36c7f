use Rattle.std.proofs.Common.{◌∙◌}
use Rattle.sv_readiness.proofs.DroppingLemmas.{drops_both}
use Rattle.sv_readiness.proofs.drain.drop_more.Goals as goal

pub returns-in-UntilPaused : goal.returns-in-UntilPaused
returns-in-UntilPaused g c = drops_both _ _ _ _ _ _ c.loop.invariant.0 c.drop_once.ensures.bytes

pub returns-in-All : goal.returns-in-All
returns-in-All g c = drops_both _ _ _ _ _ _ c.loop.invariant.0 c.drop_once.ensures.bytes

pub loop-preserved : goal.loop-preserved
loop-preserved g c = (drops_both _ _ _ _ _ _ c.loop.invariant.0 c.drop_once.ensures.bytes, c.drop_once.ensures.buffer ∙ c.loop.invariant.1)
