use Rattle.std.proofs.Common.{arith}
use Rattle.std.proofs.lemmas.Bool.{ltb-false}
use Rattle.sv_connection.proofs.Driving.{drove}
use Rattle.sv_connection.proofs.HoldingLemmas.{no_heavier}
use Rattle.sv_connection.proofs.connection_table.ConnectionTable.drive.Goals as goal

pub returns-in-Some-clause-drives : goal.returns-in-Some-clause-drives
returns-in-Some-clause-drives g c =
    drove g.P.Peer.ways g.R.EventHandler.steps g.R.EventHandler.awaited g.C.Clock.tells c.args.number c.args.handler.now c.args.clock.now
    c.self.inside.limits c.self.inside.next c.self.inside.accepted c.self.inside.connections.entries (c.get_mut.follows.lender c.drive_at-driven.new.self).entries c.args.self.now c.self.view_is
    c.in-Some.connection.now c.drive_at-driven.new.self (c.get_mut.follows.holds c.drive_at-driven.new.self).0 c.in-Some.ensures.value c.self.invariant.1
    c.drive_at-driven.result c.drive_at-driven.new.handler c.drive_at-driven.new.clock c.drive_at-driven.ensures

pub returns-in-Some-clause-within : goal.returns-in-Some-clause-within
returns-in-Some-clause-within g c = λ light.
    no_heavier c.self.inside.limits c.self.inside.next c.self.inside.accepted c.args.number c.self.inside.connections.entries
    (c.get_mut.follows.lender c.drive_at-driven.new.self).entries c.args.self.now c.self.view_is
    c.in-Some.connection.now c.drive_at-driven.new.self (c.get_mut.follows.holds c.drive_at-driven.new.self).0 c.in-Some.ensures.value
    (omega (arith, ltb-false c.weight-before.result c.weight.result light, c.weight-before.ensures, c.weight.ensures))
