use Rattle.std.proofs.Common.{rules}
use Rattle.sv_connection.proofs.FinishingLemmas.{no_more_rounds, one_last_round, stopped_last}
use Rattle.sv_connection.proofs.event_loop.EventLoop.write_rest.Goals as goal

pub returns-then-is_empty : goal.returns-then-is_empty
returns-then-is_empty g c = no_more_rounds g.P.Peer.ways g.R.EventHandler.steps g.R.EventHandler.awaited g.C.Clock.tells g.N.Poller.polls c.args.self.now c.loop.self c.loop.invariant

pub returns-then-eq : goal.returns-then-eq
returns-then-eq g c =
    stopped_last g.P.Peer.ways g.R.EventHandler.steps g.R.EventHandler.awaited g.C.Clock.tells g.N.Poller.polls c.args.self.now c.loop.self c.wait-told.new.self c.wait-told.result c.loop.invariant c.wait-told.ensures (search rules)

pub loop-preserved : goal.loop-preserved
loop-preserved g c =
    one_last_round g.P.Peer.ways g.R.EventHandler.steps g.R.EventHandler.awaited g.C.Clock.tells g.N.Poller.polls c.args.self.now c.loop.self c.take_last.new.self c.wait-told.new.self c.wait-told.result c.loop.invariant c.wait-told.ensures
    c.take_last.ensures

pub returns : goal.returns
returns g c = no_more_rounds g.P.Peer.ways g.R.EventHandler.steps g.R.EventHandler.awaited g.C.Clock.tells g.N.Poller.polls c.args.self.now c.loop.self c.loop.invariant
