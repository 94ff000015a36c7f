use Rattle.sv_connection.proofs.HoldingLemmas.{one_gone}
use Rattle.sv_connection.proofs.connection_table.ConnectionTable.remove.Goals as goal

pub returns-clause-within : goal.returns-clause-within
returns-clause-within g c =
    one_gone c.self.inside.limits c.self.inside.next c.self.inside.accepted c.args.number c.self.inside.connections.entries c.remove.new.self.entries c.args.self.now
    c.self.view_is c.remove.ensures.entries
