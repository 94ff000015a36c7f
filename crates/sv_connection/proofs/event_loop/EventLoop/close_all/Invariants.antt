use Rattle.std.proofs.Common.{length}
use Rattle.sv_connection.specs.Finishing.{IsClose, OnlyDoes}
use Rattle.sv_connection.proofs.event_loop.EventLoop.close_all.Given as goal

abbrev pub decreases-loop-number : goal.decreases-loop-number
decreases-loop-number g l = length l.self.table.entries

abbrev pub invariant-loop-number : goal.invariant-loop-number
invariant-loop-number g l = OnlyDoes g.P.Peer.ways g.R.EventHandler.steps g.R.EventHandler.awaited g.C.Clock.tells g.N.Poller.polls IsClose l.fn.self l.self
