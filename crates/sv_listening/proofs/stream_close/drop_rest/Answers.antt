use Rattle.std.proofs.Common.{◌∙◌}
use Rattle.sv_listening.proofs.DroppingLemmas.{drops_both, drops_none}
use Rattle.sv_listening.proofs.stream_close.drop_rest.Goals as goal

pub returns-in_default : goal.returns-in_default
returns-in_default g c = (_, drops_none _ _)

pub returns-then-not-drop_once : goal.returns-then-not-drop_once
returns-then-not-drop_once g c = (_, drops_both _ _ _ _ _ _ c.loop.invariant.0 c.drop_once.ensures.bytes)

pub loop-preserved : goal.loop-preserved
loop-preserved g c = (drops_both _ _ _ _ _ _ c.loop.invariant.0 c.drop_once.ensures.bytes, c.drop_once.ensures.buffer ∙ c.loop.invariant.1)
