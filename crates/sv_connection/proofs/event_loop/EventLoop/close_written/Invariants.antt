use Rattle.sv_connection.specs.Finishing.{IsCloseOfWritten, OnlyDoes}
use Rattle.sv_connection.proofs.event_loop.EventLoop.close_written.Given as goal

abbrev pub invariant-loop : goal.invariant-loop
invariant-loop g l = OnlyDoes g.P.Peer.ways g.R.EventHandler.steps g.R.EventHandler.awaited g.C.Clock.tells g.N.Poller.polls IsCloseOfWritten l.fn.self l.self
