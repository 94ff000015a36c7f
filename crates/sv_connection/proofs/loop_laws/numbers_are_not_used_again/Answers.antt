use Rattle.sv_connection.proofs.LawLemmas.{over_stays}
use Rattle.sv_connection.proofs.loop_laws.numbers_are_not_used_again.Goals as goal

pub returns : goal.returns
returns g c = over_stays g.P.Peer.ways
