use Rattle.std.proofs.Common.{Bool, Err, Ok, false}
use Rattle.sv_connection.proofs.Driving.{drive_failed, drove_none, drove_over}
use Rattle.sv_connection.proofs.event_loop.EventLoop.serve_one.Goals as goal

pub returns-in-Ok-None-clause-moves : goal.returns-in-Ok-None-clause-moves
returns-in-Ok-None-clause-moves g c =
    drove_none g.P.Peer.ways g.R.EventHandler.steps g.R.EventHandler.awaited g.C.Clock.tells g.N.Poller.polls c.drive.new.grows c.args.number c.args.self.now c.drive.new.handler c.drive.new.clock c.drive.new.self
    c.in-Ok-None.field-0 c.in-Ok-None.field-0-is c.in-Ok-None.ensures.drives

pub returns-in-Ok-clause-moves : goal.returns-in-Ok-clause-moves
returns-in-Ok-clause-moves g c =
    drove_over g.P.Peer.ways g.R.EventHandler.steps g.R.EventHandler.awaited g.C.Clock.tells g.N.Poller.polls false c.args.number c.in-Ok-Some.cause c.in-Ok-Some.field-0 c.in-Ok-Some.field-0-is
    c.args.self.now c.drive.new.handler c.drive.new.clock c.drive.new.self c.in-Ok-Some.ensures.drives c.end.new.self (Ok c.in-Ok.field-0) c.in-Ok.ensures

pub returns-in-Err-end-clause-moves : goal.returns-in-Err-end-clause-moves
returns-in-Err-end-clause-moves g c =
    drove_over g.P.Peer.ways g.R.EventHandler.steps g.R.EventHandler.awaited g.C.Clock.tells g.N.Poller.polls false c.args.number c.in-Ok-Some.cause c.in-Ok-Some.field-0 c.in-Ok-Some.field-0-is
    c.args.self.now c.drive.new.handler c.drive.new.clock c.drive.new.self c.in-Ok-Some.ensures.drives c.end.new.self (Err c.in-Err-end.fault) c.in-Err-end.ensures

pub returns-in-Err-clause-moves : goal.returns-in-Err-clause-moves
returns-in-Err-clause-moves g c =
    drive_failed g.P.Peer.ways g.R.EventHandler.steps g.R.EventHandler.awaited g.C.Clock.tells g.N.Poller.polls Bool c.in-Err.fault c.args.number c.args.self.now c.drive.new.handler c.drive.new.clock c.drive.new.self c.in-Err.ensures.drives
