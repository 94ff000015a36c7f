use Rattle.sv_connection.proofs.Looping.{settles_join}
use Rattle.sv_connection.proofs.event_loop.EventLoop.give_up_due.Goals as goal

pub returns : goal.returns
returns g c =
    settles_join g.P.Peer.ways g.R.EventHandler.steps g.R.EventHandler.awaited g.C.Clock.tells g.N.Poller.polls {A = Unit {0}} {B = Unit {0}} tt c.args.self.now c.serve.new.self c.give_up.new.self c.in_ok-serve.ensures
    c.give_up.result c.give_up.ensures
