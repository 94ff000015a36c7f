use Rattle.std.proofs.Common.{◌+◌, ap}
use Rattle.sv_connection.specs.Holding.{weight}
use Rattle.sv_connection.proofs.HoldingLemmas.{one_opened}
use Rattle.sv_connection.proofs.connection_table.ConnectionTable.open.Goals as goal

pub returns-clause-within : goal.returns-clause-within
returns-clause-within g c =
    one_opened c.self.inside.limits c.self.inside.next c.self.inside.accepted (c.self.inside.next + 1) c.take.new.self c.self.inside.next
    c.self.inside.connections c.insert.new.self c.args.self.now c.self.view_is c.new-connection.result c.in-Ok.field-0 c.in-Ok.ensures.old
    c.in-Ok.ensures.entries (ap weight c.new-connection.ensures)
