use Rattle.std.proofs.Common.{None, Ok, Some, subst, sym, true, false}
use Rattle.sv_connection.specs.Polling.{Accept}
use Rattle.sv_connection.specs.Rounds.{Settles}
use Rattle.sv_connection.proofs.Driving.{accepted_so, none_waits, not_some}
use Rattle.sv_connection.proofs.event_loop.EventLoop.accept.Goals as goal

pub returns-in_default : goal.returns-in_default
returns-in_default g c =
    none_waits g.P.Peer.ways g.R.EventHandler.steps g.R.EventHandler.awaited g.C.Clock.tells g.N.Poller.polls false c.args.self.now c.accept.new.self
    (subst (λ n. g.N.Poller.polls c.args.self.now.poller (Accept n None) c.accept.new.self) c.next.ensures c.in_default.ensures)

pub returns : goal.returns
returns g c =
    subst (λ known. Settles g.P.Peer.ways g.R.EventHandler.steps g.R.EventHandler.awaited g.C.Clock.tells g.N.Poller.polls c.args.self.now (Ok true) (record c.args.self.now { poller = c.accept.new.self; table = known })) (sym c.keep_accepted.ensures)
    (accepted_so g.P.Peer.ways g.R.EventHandler.steps g.R.EventHandler.awaited g.C.Clock.tells g.N.Poller.polls true c.args.self.now c.accept.new.self c.in-Some.stream
    (not_some c.args.self.now.table.accepted c.has_accepted.result c.has_accepted.ensures c.if-has_accepted.false)
    (subst (λ n. g.N.Poller.polls c.args.self.now.poller (Accept n (Some c.in-Some.stream)) c.accept.new.self) c.next.ensures c.in-Some.ensures))
