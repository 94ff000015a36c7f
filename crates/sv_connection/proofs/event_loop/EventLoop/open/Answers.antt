use Rattle.std.proofs.Common.{Bool, Ok, false, true}
use Rattle.sv_connection.proofs.Driving.{turned_away}
use Rattle.sv_connection.proofs.Looping.{settles_broken, settles_join}
use Rattle.sv_connection.proofs.event_loop.EventLoop.open.Goals as goal

pub returns-then-not-has_room : goal.returns-then-not-has_room
returns-then-not-has_room g c = turned_away g.P.Peer.ways g.R.EventHandler.steps g.R.EventHandler.awaited g.C.Clock.tells g.N.Poller.polls false c.args.self.now c.turn_away.new.self c.turn_away.ensures

pub returns-in_err-serve : goal.returns-in_err-serve
returns-in_err-serve g c =
    settles_broken g.P.Peer.ways g.R.EventHandler.steps g.R.EventHandler.awaited g.C.Clock.tells g.N.Poller.polls true c.args.self.now c.open_accepted.new.self c.serve.new.self c.in_ok-open_accepted.ensures
    c.serve.result c.in_err-serve.field-0.0 c.in_err-serve.was c.from_residual-in_err-serve.result c.from_residual-in_err-serve.ensures.1 c.serve.ensures

pub returns : goal.returns
returns g c =
    settles_join g.P.Peer.ways g.R.EventHandler.steps g.R.EventHandler.awaited g.C.Clock.tells g.N.Poller.polls {A = Bool} {B = Bool} true c.args.self.now c.open_accepted.new.self c.serve.new.self c.in_ok-open_accepted.ensures
    (Ok true) c.in_ok-serve.ensures
