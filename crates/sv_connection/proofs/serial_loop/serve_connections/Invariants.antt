use Rattle.sv_connection.specs.Serving.{AreServed}
use Rattle.sv_connection.proofs.serial_loop.serve_connections.Given as goal

abbrev pub invariant-loop-served : goal.invariant-loop-served
invariant-loop-served g l =
    AreServed g.R.EventHandler.steps g.A.Acceptor.accepts g.A.Acceptor.parts g.A.Peer.Stream.makes g.C.Clock.tells l.fn.handler l.fn.acceptor l.fn.clock l.served l.handler l.acceptor l.clock
