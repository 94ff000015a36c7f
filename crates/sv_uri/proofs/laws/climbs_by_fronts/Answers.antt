use Rattle.sv_uri.proofs.DotSegmentLemmas.{climbs_by_fronts}
use Rattle.sv_uri.proofs.laws.climbs_by_fronts.Goals as goal

pub returns : goal.returns
returns c = climbs_by_fronts
