use Rattle.sv_web.proofs.Pushes.{two}
use Rattle.sv_web.proofs.elements.push_servlet.Goals as goal

pub returns : goal.returns
returns c = two _ _ _ _ _ c.in_ok-push_named.ensures c.in_ok-push_mapping.ensures
