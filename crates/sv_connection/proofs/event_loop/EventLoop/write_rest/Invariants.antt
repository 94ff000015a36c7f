use Rattle.sv_connection.proofs.FinishingLemmas.{LastSoFar}
use Rattle.sv_connection.proofs.event_loop.EventLoop.write_rest.Given as goal

abbrev pub invariant-loop : goal.invariant-loop
invariant-loop g l = LastSoFar g.P.Peer.ways g.R.EventHandler.steps g.R.EventHandler.awaited g.C.Clock.tells g.N.Poller.polls l.fn.self l.self
