use Rattle.std.proofs.Common.{◌<◌, length, subst}
use Rattle.sv_connection.specs.States.{ConnectionState}
use Rattle.sv_connection.proofs.FinishingLemmas.{sent_more, sent_out, sent_over, sent_rests, some_unsent}
use Rattle.sv_connection.proofs.open_connection.Connection.send_out.Goals as goal

pub returns-in-Rests : goal.returns-in-Rests
returns-in-Rests g c =
    sent_rests g.P.Peer.ways c.args.self.now c.loop.self c.loop.invariant c.loop.left c.send_on.new.left c.send_on.new.self c.in-Rests.ensures

pub returns-in-IsOver : goal.returns-in-IsOver
returns-in-IsOver g c =
    sent_over g.P.Peer.ways c.args.self.now c.loop.self c.loop.invariant c.loop.left c.send_on.new.left c.send_on.new.self c.in-IsOver.field-0
    (subst (λ (s : ConnectionState g.row.P.Denot). 0 < length s.unsent) c.self.view_is (some_unsent c.self.inside.unsent c.is_empty.result c.is_empty.ensures c.if-is_empty.false)) c.in-IsOver.ensures

pub loop-preserved : goal.loop-preserved
loop-preserved g c =
    sent_more g.P.Peer.ways c.args.self.now c.loop.self c.loop.invariant c.loop.left c.send_on.new.left c.send_on.new.self c.in-GoesOn.ensures

pub returns : goal.returns
returns g c = sent_out g.P.Peer.ways c.args.self.now c.loop.self c.loop.invariant
