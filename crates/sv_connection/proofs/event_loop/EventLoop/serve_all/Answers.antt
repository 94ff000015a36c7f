use Rattle.std.proofs.Common.{arith, rules}
use Rattle.sv_connection.proofs.Rounding.{broken, one_round, stopped, worn_out}
use Rattle.sv_connection.proofs.event_loop.EventLoop.serve_all.Goals as goal

pub returns-then-eq : goal.returns-then-eq
returns-then-eq g c =
    stopped g.P.Peer.ways g.R.EventHandler.steps g.R.EventHandler.awaited g.C.Clock.tells g.N.Poller.polls c.args.self.now c.loop-round.self c.loop-round.round c.wait-told.new.self c.wait-told.result
    c.loop-round.invariant c.wait-told.ensures (search rules)

pub returns-in_err-take : goal.returns-in_err-take
returns-in_err-take g c =
    broken g.P.Peer.ways g.R.EventHandler.steps g.R.EventHandler.awaited g.C.Clock.tells g.N.Poller.polls c.args.self.now c.loop-round.self c.take.new.self c.loop-round.round c.wait-told.new.self c.wait-told.result
    c.loop-round.invariant c.wait-told.ensures c.take.result c.in_err-take.field-0.0 c.in_err-take.was c.take.ensures c.from_residual.result c.from_residual.ensures.1

pub loop-round-preserved : goal.loop-round-preserved
loop-round-preserved g c =
    one_round g.P.Peer.ways g.R.EventHandler.steps g.R.EventHandler.awaited g.C.Clock.tells g.N.Poller.polls c.args.self.now c.loop-round.self c.take.new.self c.loop-round.round c.wait-told.new.self c.wait-told.result
    c.loop-round.invariant c.wait-told.ensures c.in_ok-take.ensures

pub returns : goal.returns
returns g c = worn_out g.P.Peer.ways g.R.EventHandler.steps g.R.EventHandler.awaited g.C.Clock.tells g.N.Poller.polls c.args.self.now c.loop-round.self c.loop-round.round c.loop-round.invariant (omega (arith, c.loop-round-test.false, c.loop-round.auto.round-end))
