use Rattle.std.proofs.Common.{Bool, Ok, true}
use Rattle.sv_connection.proofs.Looping.{settles_broken, settles_join}
use Rattle.sv_connection.proofs.event_loop.EventLoop.accept_one.Goals as goal

pub returns-in_err-make_room : goal.returns-in_err-make_room
returns-in_err-make_room g c =
    settles_broken g.P.Peer.ways g.R.EventHandler.steps g.R.EventHandler.awaited g.C.Clock.tells g.N.Poller.polls true c.args.self.now c.accept.new.self c.make_room.new.self c.accept.ensures
    c.make_room.result c.in_err-make_room.field-0.0 c.in_err-make_room.was c.from_residual.result c.from_residual.ensures.1 c.make_room.ensures

pub returns : goal.returns
returns g c =
    settles_join g.P.Peer.ways g.R.EventHandler.steps g.R.EventHandler.awaited g.C.Clock.tells g.N.Poller.polls {A = Bool} {B = Bool} true c.args.self.now c.make_room.new.self c.open.new.self
    (settles_join g.P.Peer.ways g.R.EventHandler.steps g.R.EventHandler.awaited g.C.Clock.tells g.N.Poller.polls {A = Bool} {B = Bool} true c.args.self.now c.accept.new.self c.make_room.new.self c.accept.ensures
    (Ok true) c.in_ok-make_room.ensures)
    c.open.result c.open.ensures
