use Rattle.sv_connection.proofs.Rounding.{rounds_are_one}
use Rattle.sv_connection.proofs.loop_laws.rounds_are_one.Goals as goal

pub returns : goal.returns
returns g c = rounds_are_one g.N.Peer.Peer.ways g.R.EventHandler.steps g.R.EventHandler.awaited g.C.Clock.tells g.N.Poller.polls
