use Rattle.sv_connection.proofs.FinishingLemmas.{served_whole}
use Rattle.sv_connection.proofs.event_loop.run_event_loop.Goals as goal

pub returns : goal.returns
returns g c =
    served_whole g.N.Peer.Peer.ways g.R.EventHandler.steps g.R.EventHandler.awaited g.C.Clock.tells g.N.Poller.polls c.args.limits (record { handler = c.args.handler; poller = c.args.poller; clock = c.args.clock; table = c.new.result })
    c.serve_all-result.new.self c.finish.new.self c.serve_all-result.result c.new.ensures c.serve_all-result.ensures c.finish.ensures
