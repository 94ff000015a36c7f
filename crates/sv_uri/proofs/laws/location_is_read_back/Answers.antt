use Rattle.sv_uri.proofs.LocationLemmas.{location_is_read_back}
use Rattle.sv_uri.proofs.laws.location_is_read_back.Goals as goal

pub returns : goal.returns
returns c = location_is_read_back
