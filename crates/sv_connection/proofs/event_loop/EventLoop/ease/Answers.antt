use Rattle.std.proofs.Common.{Ok}
use Rattle.sv_connection.proofs.Looping.{moves_broken, moves_join, settles_moves, starved}
use Rattle.sv_connection.proofs.event_loop.EventLoop.ease.Goals as goal

pub returns-in_default-clause-moves : goal.returns-in_default-clause-moves
returns-in_default-clause-moves g c = starved g.P.Peer.ways g.R.EventHandler.steps g.R.EventHandler.awaited g.C.Clock.tells g.N.Poller.polls {A = Unit {0}} (Unit {0}) tt c.args.self.now c.loop.self c.loop.invariant

pub returns-in_err-give_up-clause-moves : goal.returns-in_err-give_up-clause-moves
returns-in_err-give_up-clause-moves g c =
    moves_broken g.P.Peer.ways g.R.EventHandler.steps g.R.EventHandler.awaited g.C.Clock.tells g.N.Poller.polls {A = Unit {0}} tt c.args.self.now c.loop.self c.give_up.new.self c.loop.invariant
    c.give_up.result c.in_err-give_up.field-0.0 c.in_err-give_up.was c.from_residual.result c.from_residual.ensures.1
    (settles_moves g.P.Peer.ways g.R.EventHandler.steps g.R.EventHandler.awaited g.C.Clock.tells g.N.Poller.polls c.loop.self c.give_up.new.self c.give_up.result c.give_up.ensures)

pub loop-preserved : goal.loop-preserved
loop-preserved g c =
    moves_join g.P.Peer.ways g.R.EventHandler.steps g.R.EventHandler.awaited g.C.Clock.tells g.N.Poller.polls {A = Unit {0}} {B = Unit {0}} tt c.args.self.now c.loop.self c.give_up.new.self c.loop.invariant (Ok tt) c.in_ok-give_up.ensures.0

pub returns-clause-moves : goal.returns-clause-moves
returns-clause-moves g c = starved g.P.Peer.ways g.R.EventHandler.steps g.R.EventHandler.awaited g.C.Clock.tells g.N.Poller.polls {A = Unit {0}} (Unit {0}) tt c.args.self.now c.loop.self c.loop.invariant
