use Rattle.sv_connection.proofs.AloneLemmas.{alone}
use Rattle.sv_connection.proofs.loop_laws.each_is_served_as_if_alone.Goals as goal

pub returns : goal.returns
returns g c = λ number actions at told along. alone g.P.Peer.ways number actions at told along
