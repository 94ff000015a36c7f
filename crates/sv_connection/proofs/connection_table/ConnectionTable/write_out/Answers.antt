use Rattle.sv_connection.proofs.FinishingLemmas.{wrote_out}
use Rattle.sv_connection.proofs.connection_table.ConnectionTable.write_out.Goals as goal

pub returns-in-Some : goal.returns-in-Some
returns-in-Some g c =
    wrote_out g.P.Peer.ways c.self.inside.limits c.args.number c.self.inside.next c.self.inside.accepted c.self.inside.connections.entries (c.get_mut.follows.lender c.send_out.new.self).entries
    c.args.self.now c.self.view_is c.in-Some.connection.now c.send_out.new.self (c.get_mut.follows.holds c.send_out.new.self).0 c.in-Some.ensures.value c.self.invariant.1
    c.send_out.result c.send_out.ensures
