use Rattle.sv_connection.specs.Finishing.{WritesOn}
use Rattle.sv_connection.proofs.open_connection.Connection.send_out.Given as goal

abbrev pub invariant-loop : goal.invariant-loop
invariant-loop g l =
    WritesOn g.P.Peer.ways l.fn.self l.self
