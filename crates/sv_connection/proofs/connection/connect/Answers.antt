use Rattle.std.proofs.Common.{refl, arith}
use Rattle.sv_connection.proofs.CourseLemmas.{limit_met, over_then, turn_more}
use Rattle.sv_connection.proofs.connection.connect.Goals as goal

pub returns-in-Some : goal.returns-in-Some
returns-in-Some g c =
    over_then g.R.EventHandler.steps g.S.Stream.makes g.C.Clock.tells c.args.connection c.args.handler.now c.args.stream.now c.args.clock.now
    c.loop.counter c.loop.handler c.take_turn.new.handler c.loop.stream c.take_turn.new.stream c.loop.clock c.take_turn.new.clock
    c.loop.invariant c.in-Some.result (omega arith) c.in-Some.ensures

pub loop-preserved : goal.loop-preserved
loop-preserved g c =
    turn_more g.R.EventHandler.steps g.S.Stream.makes g.C.Clock.tells c.args.connection c.args.handler.now c.args.stream.now c.args.clock.now
    c.loop.counter c.loop.handler c.take_turn.new.handler c.loop.stream c.take_turn.new.stream c.loop.clock c.take_turn.new.clock
    c.loop.invariant c.in-None.ensures

pub returns : goal.returns
returns g c =
    limit_met g.R.EventHandler.steps g.S.Stream.makes g.C.Clock.tells c.args.connection c.args.handler.now c.args.stream.now c.args.clock.now
    c.loop.counter c.loop.handler c.tell_over.new.handler c.loop.stream c.loop.stream c.loop.clock c.loop.clock
    c.loop.invariant c.tell_over.result (omega arith) c.tell_over.ensures refl refl
