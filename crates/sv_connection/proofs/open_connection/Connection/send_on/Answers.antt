use Rattle.std.proofs.Common.{◌++◌}
use Rattle.sv_connection.proofs.Doing.{taken_within, wrote}
use Rattle.sv_connection.proofs.open_connection.Connection.send_on.Goals as goal

pub skip-requires : goal.skip-requires
skip-requires g c = taken_within c.in-Done.count c.args.left.now.bytes c.self.inside.unsent (c.front.result.0.now ++ c.front.result.1.now ++ c.front.result.2.now) c.in-Done.ensures.1 c.front.ensures

pub returns-in-Done : goal.returns-in-Done
returns-in-Done g c =
    wrote g.P.Peer.ways c.args.self.now c.self.inside.stream c.write_slices.new.self c.self.inside.ahead c.self.inside.unsent c.skip.new.self (c.front.result.0.now ++ c.front.result.1.now ++ c.front.result.2.now)
    c.self.inside.phase c.self.inside.rests c.self.inside.under_way c.in-Done.count c.args.left.now c.self.view_is (c.is_spent.ensures.calls (λ i. c.if-is_spent.false i)) c.in-Done.ensures c.front.ensures c.skip.ensures
