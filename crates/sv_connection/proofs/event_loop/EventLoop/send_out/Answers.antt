use Rattle.sv_connection.proofs.FinishingLemmas.{wrote_last, wrote_some}
use Rattle.sv_connection.proofs.event_loop.EventLoop.send_out.Goals as goal

pub returns-in-Some-Waits : goal.returns-in-Some-Waits
returns-in-Some-Waits g c =
    wrote_some g.P.Peer.ways g.R.EventHandler.steps g.R.EventHandler.awaited g.C.Clock.tells g.N.Poller.polls c.args.number c.args.self.now c.write_out.new.self c.in-Some-Waits.field-0 c.in-Some-Waits.field-0-is c.in-Some-Waits.ensures

pub returns-in-Some : goal.returns-in-Some
returns-in-Some g c =
    wrote_last g.P.Peer.ways g.R.EventHandler.steps g.R.EventHandler.awaited g.C.Clock.tells g.N.Poller.polls c.args.number c.args.self.now c.close_last.new.self c.write_out.new.self c.in-Some.field-0 c.in-Some.ensures c.close_last.ensures
