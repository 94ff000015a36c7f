use Rattle.std.proofs.Common.{Ok}
use Rattle.sv_connection.proofs.Looping.{settles_broken, settles_join}
use Rattle.sv_connection.proofs.event_loop.EventLoop.accept_some.Goals as goal

pub returns-in_err-accept_one : goal.returns-in_err-accept_one
returns-in_err-accept_one g c =
    settles_broken g.P.Peer.ways g.R.EventHandler.steps g.R.EventHandler.awaited g.C.Clock.tells g.N.Poller.polls {A = Unit {0}} tt c.args.self.now c.loop.self c.accept_one.new.self c.loop.invariant
    c.accept_one.result c.in_err-accept_one.field-0.0 c.in_err-accept_one.was c.from_residual.result c.from_residual.ensures.1 c.accept_one.ensures

pub returns-then-not-branch : goal.returns-then-not-branch
returns-then-not-branch g c =
    settles_join g.P.Peer.ways g.R.EventHandler.steps g.R.EventHandler.awaited g.C.Clock.tells g.N.Poller.polls {A = Unit {0}} {B = Unit {0}} tt c.args.self.now c.loop.self c.accept_one.new.self c.loop.invariant (Ok tt) c.in_ok-accept_one.ensures

pub loop-preserved : goal.loop-preserved
loop-preserved g c =
    settles_join g.P.Peer.ways g.R.EventHandler.steps g.R.EventHandler.awaited g.C.Clock.tells g.N.Poller.polls {A = Unit {0}} {B = Unit {0}} tt c.args.self.now c.loop.self c.accept_one.new.self c.loop.invariant (Ok tt) c.in_ok-accept_one.ensures
