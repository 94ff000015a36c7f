use Rattle.std.proofs.Common.{Ok}
use Rattle.sv_connection.specs.Rounds.{Settles}
use Rattle.sv_connection.proofs.event_loop.EventLoop.give_up_late.Given as goal

abbrev pub invariant-loop : goal.invariant-loop
invariant-loop g l =
    Settles g.P.Peer.ways g.R.EventHandler.steps g.R.EventHandler.awaited g.C.Clock.tells g.N.Poller.polls {A = Unit {0}} l.fn.self (Ok tt) l.self
