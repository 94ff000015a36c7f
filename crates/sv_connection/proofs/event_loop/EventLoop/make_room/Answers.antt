use Rattle.std.proofs.Common.{Ok}
use Rattle.sv_connection.proofs.Looping.{settles_broken, settles_join}
use Rattle.sv_connection.proofs.event_loop.EventLoop.make_room.Goals as goal

pub returns-in_err-give_up_idle : goal.returns-in_err-give_up_idle
returns-in_err-give_up_idle g c =
    settles_broken g.P.Peer.ways g.R.EventHandler.steps g.R.EventHandler.awaited g.C.Clock.tells g.N.Poller.polls {A = Unit {0}} tt c.args.self.now c.loop.self c.give_up_idle.new.self c.loop.invariant
    c.give_up_idle.result c.in_err-give_up_idle.field-0.0 c.in_err-give_up_idle.was c.from_residual.result c.from_residual.ensures.1 c.give_up_idle.ensures

pub loop-preserved : goal.loop-preserved
loop-preserved g c =
    settles_join g.P.Peer.ways g.R.EventHandler.steps g.R.EventHandler.awaited g.C.Clock.tells g.N.Poller.polls {A = Unit {0}} {B = Unit {0}} tt c.args.self.now c.loop.self c.give_up_idle.new.self c.loop.invariant (Ok tt) c.in_ok-give_up_idle.ensures
