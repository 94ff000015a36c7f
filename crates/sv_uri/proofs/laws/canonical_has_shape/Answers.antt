use Rattle.sv_uri.proofs.ShapeLemmas.{canonical_has_shape}
use Rattle.sv_uri.proofs.laws.canonical_has_shape.Goals as goal

pub returns : goal.returns
returns c = canonical_has_shape
