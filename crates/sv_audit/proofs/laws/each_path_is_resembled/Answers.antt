use Rattle.sv_audit.proofs.Represented.{resembled}
use Rattle.sv_audit.proofs.laws.each_path_is_resembled.Goals as goal

pub returns : goal.returns
returns c = resembled c.canonical_has_shape.ensures c.location_is_read_back.ensures
