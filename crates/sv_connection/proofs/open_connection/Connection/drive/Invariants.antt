use Rattle.sv_connection.proofs.Stepping.{Driven}
use Rattle.sv_connection.proofs.open_connection.Connection.drive.Given as goal

abbrev pub invariant-loop : goal.invariant-loop
invariant-loop g l =
    Driven g.R.EventHandler.steps g.R.EventHandler.awaited g.C.Clock.tells g.P.Peer.ways l.fn.number l.fn.handler l.fn.clock l.fn.self l.handler l.clock l.self l.left
