use Rattle.sv_lifecycle.proofs.Mirroring.{stops_mirror_starts}
use Rattle.sv_lifecycle.proofs.laws.stops_mirror_starts.Goals as goal

pub returns : goal.returns
returns g c = stops_mirror_starts
