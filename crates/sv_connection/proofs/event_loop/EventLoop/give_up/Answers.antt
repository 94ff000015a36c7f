use Rattle.sv_connection.proofs.Driving.{given_up}
use Rattle.sv_connection.proofs.event_loop.EventLoop.give_up.Goals as goal

pub returns : goal.returns
returns g c = given_up g.P.Peer.ways g.R.EventHandler.steps g.R.EventHandler.awaited g.C.Clock.tells g.N.Poller.polls c.args.number c.args.self.now c.end.new.self c.end.result c.end.ensures
