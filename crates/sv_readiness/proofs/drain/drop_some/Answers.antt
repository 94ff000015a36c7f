use Rattle.sv_readiness.proofs.DroppingLemmas.{drops_both}
use Rattle.sv_readiness.proofs.drain.drop_some.Goals as goal

pub returns-in-Some : goal.returns-in-Some
returns-in-Some g c = drops_both _ _ _ _ _ _ c.drop_once.ensures.bytes c.drop_more.ensures
