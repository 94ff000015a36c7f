use Rattle.sv_connection.proofs.Stepping.{driven_out, fails_then, not_driven, one_more, over_then, rests_then}
use Rattle.sv_connection.proofs.open_connection.Connection.drive.Goals as goal

pub loop-init : goal.loop-init
loop-init g c =
    not_driven g.R.EventHandler.steps g.R.EventHandler.awaited g.C.Clock.tells g.P.Peer.ways c.args.number c.args.handler.now c.args.clock.now c.args.self.now c.whole-left.result c.whole-left.ensures

pub returns-in-Ok-Rests : goal.returns-in-Ok-Rests
returns-in-Ok-Rests g c =
    rests_then g.R.EventHandler.steps g.R.EventHandler.awaited g.C.Clock.tells g.P.Peer.ways c.args.number c.args.handler.now c.args.clock.now c.args.self.now
    c.loop.handler c.loop.clock c.loop.self c.loop.left c.loop.invariant c.step.new.handler c.step.new.clock c.step.new.self c.step.new.left
    c.in-Ok-Rests.field-0 c.in-Ok-Rests.field-0-is c.in-Ok-Rests.ensures

pub returns-in-Ok-IsOver : goal.returns-in-Ok-IsOver
returns-in-Ok-IsOver g c =
    over_then g.R.EventHandler.steps g.R.EventHandler.awaited g.C.Clock.tells g.P.Peer.ways c.args.number c.args.handler.now c.args.clock.now c.args.self.now
    c.loop.handler c.loop.clock c.loop.self c.loop.left c.loop.invariant c.in-Ok-IsOver.cause c.step.new.handler c.step.new.clock c.step.new.self c.step.new.left
    c.in-Ok-IsOver.field-0 c.in-Ok-IsOver.field-0-is c.in-Ok-IsOver.ensures

pub returns-in-Err : goal.returns-in-Err
returns-in-Err g c =
    fails_then g.R.EventHandler.steps g.R.EventHandler.awaited g.C.Clock.tells g.P.Peer.ways c.args.number c.args.handler.now c.args.clock.now c.args.self.now
    c.loop.handler c.loop.clock c.loop.self c.loop.left c.loop.invariant c.step.new.handler c.step.new.clock c.step.new.self c.step.new.left
    c.in-Err.fault c.in-Err.ensures

pub loop-preserved : goal.loop-preserved
loop-preserved g c =
    one_more g.R.EventHandler.steps g.R.EventHandler.awaited g.C.Clock.tells g.P.Peer.ways c.args.number c.args.handler.now c.args.clock.now c.args.self.now
    c.loop.handler c.loop.clock c.loop.self c.loop.left c.loop.invariant c.step.new.handler c.step.new.clock c.step.new.self c.step.new.left
    c.in-Ok-GoesOn.field-0 c.in-Ok-GoesOn.field-0-is c.in-Ok-GoesOn.ensures

pub returns : goal.returns
returns g c =
    driven_out g.R.EventHandler.steps g.R.EventHandler.awaited g.C.Clock.tells g.P.Peer.ways c.args.number c.args.handler.now c.args.clock.now c.args.self.now
    c.loop.handler c.loop.clock c.loop.self c.loop.left c.loop.invariant
