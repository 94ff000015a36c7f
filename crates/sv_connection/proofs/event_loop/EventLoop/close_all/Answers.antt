use Rattle.sv_connection.specs.Finishing.{IsClose}
use Rattle.sv_connection.proofs.FinishingLemmas.{closed_last, one_fewer, only_join}
use Rattle.sv_connection.proofs.event_loop.EventLoop.close_all.Goals as goal

pub loop-number-smaller : goal.loop-number-smaller
loop-number-smaller g c = one_fewer g.N.Poller.polls c.in-Some.number c.loop-number.self c.close_last.new.self c.in-Some.ensures.open c.close_last.ensures

pub loop-number-preserved : goal.loop-number-preserved
loop-number-preserved g c =
    only_join g.P.Peer.ways g.R.EventHandler.steps g.R.EventHandler.awaited g.C.Clock.tells g.N.Poller.polls IsClose c.args.self.now c.loop-number.self c.close_last.new.self c.loop-number.invariant
    (closed_last g.P.Peer.ways g.R.EventHandler.steps g.R.EventHandler.awaited g.C.Clock.tells g.N.Poller.polls c.in-Some.number c.loop-number.self c.close_last.new.self c.close_last.ensures)
