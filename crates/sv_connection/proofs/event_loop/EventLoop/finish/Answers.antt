use Rattle.sv_connection.proofs.FinishingLemmas.{ended_all}
use Rattle.sv_connection.proofs.event_loop.EventLoop.finish.Goals as goal

pub returns : goal.returns
returns g c =
    ended_all g.P.Peer.ways g.R.EventHandler.steps g.R.EventHandler.awaited g.C.Clock.tells g.N.Poller.polls c.args.self.now c.close_written.new.self c.write_rest.new.self c.close_all.new.self c.turn_away.new.self
    c.close_written.ensures c.write_rest.ensures c.close_all.ensures.closes c.close_all.ensures.none c.turn_away.ensures
