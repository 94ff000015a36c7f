use Rattle.sv_connection.proofs.Rounding.{SoFar}
use Rattle.sv_connection.proofs.event_loop.EventLoop.serve_all.Given as goal

abbrev pub invariant-loop-round : goal.invariant-loop-round
invariant-loop-round g l = SoFar g.P.Peer.ways g.R.EventHandler.steps g.R.EventHandler.awaited g.C.Clock.tells g.N.Poller.polls l.fn.self l.round l.self
