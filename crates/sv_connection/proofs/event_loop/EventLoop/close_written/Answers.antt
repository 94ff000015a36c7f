use Rattle.sv_connection.specs.Finishing.{IsCloseOfWritten}
use Rattle.sv_connection.proofs.FinishingLemmas.{closed_written, only_join}
use Rattle.sv_connection.proofs.event_loop.EventLoop.close_written.Goals as goal

pub loop-preserved : goal.loop-preserved
loop-preserved g c =
    only_join g.P.Peer.ways g.R.EventHandler.steps g.R.EventHandler.awaited g.C.Clock.tells g.N.Poller.polls IsCloseOfWritten c.args.self.now c.loop.self c.close_last.new.self c.loop.invariant
    (closed_written g.P.Peer.ways g.R.EventHandler.steps g.R.EventHandler.awaited g.C.Clock.tells g.N.Poller.polls c.in-Some.number c.loop.self c.close_last.new.self c.in-Some.ensures c.close_last.ensures)
