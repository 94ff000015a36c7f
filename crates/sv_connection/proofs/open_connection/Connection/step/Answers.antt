use Rattle.std.proofs.Common.{arith}
use Rattle.sv_connection.proofs.Stepping.{handed_on, sent_on, took_in}
use Rattle.sv_connection.proofs.open_connection.Connection.step.Goals as goal

pub returns-then-not-is_empty : goal.returns-then-not-is_empty
returns-then-not-is_empty g c =
    sent_on g.R.EventHandler.steps g.R.EventHandler.awaited g.C.Clock.tells g.P.Peer.ways c.args.number c.args.handler.now c.args.clock.now c.args.self.now c.send_on.new.self c.args.left.now c.send_on.new.left
    c.send_on.result c.send_on.ensures

pub returns-in-Ok : goal.returns-in-Ok
returns-in-Ok g c =
    took_in g.R.EventHandler.steps g.R.EventHandler.awaited g.C.Clock.tells g.P.Peer.ways c.args.number c.args.handler.now c.args.clock.now c.args.self.now c.take_in.new.self c.args.left.now c.take_in.new.left
    c.in-Ok.step c.in-Ok.ensures

pub returns-in-Ok-hand_on : goal.returns-in-Ok-hand_on
returns-in-Ok-hand_on g c =
    handed_on g.R.EventHandler.steps g.R.EventHandler.awaited g.C.Clock.tells g.P.Peer.ways c.args.number c.args.handler.now c.args.clock.now c.args.self.now c.hand_on.new.self c.args.left.now c.take_piece.new.self
    c.hand_on.new.handler c.hand_on.new.clock (omega (arith, c.take_piece.ensures.calls)) (omega (arith, c.take_piece.ensures.bytes)) c.in-Ok-hand_on.ensures
