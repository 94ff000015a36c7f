use Rattle.sv_connection.proofs.Looping.{settles_as, settles_join}
use Rattle.sv_connection.proofs.Taking.{second_passed, tick_refused}
use Rattle.sv_connection.proofs.event_loop.EventLoop.pass_second.Goals as goal

pub returns-in_err-tick : goal.returns-in_err-tick
returns-in_err-tick g c =
    tick_refused g.P.Peer.ways g.R.EventHandler.steps g.R.EventHandler.awaited g.C.Clock.tells g.N.Poller.polls c.args.self.now c.tick.new.self c.in_err-tick.field-0.0 c.in_err-tick.ensures
    c.from_residual.result c.from_residual.ensures.1

pub returns-in_err-give_up_late : goal.returns-in_err-give_up_late
returns-in_err-give_up_late g c =
    second_passed g.P.Peer.ways g.R.EventHandler.steps g.R.EventHandler.awaited g.C.Clock.tells g.N.Poller.polls c.args.self.now c.tick.new.self c.give_up_late.new.self c.in_ok-tick.field-0 c.in_ok-tick.ensures
    c.from_residual-in_err-give_up_late.result
    (settles_as g.P.Peer.ways g.R.EventHandler.steps g.R.EventHandler.awaited g.C.Clock.tells g.N.Poller.polls c.tick.new.self c.give_up_late.new.self c.give_up_late.result c.in_err-give_up_late.field-0.0 c.in_err-give_up_late.was
    c.from_residual-in_err-give_up_late.result c.from_residual-in_err-give_up_late.ensures.1 c.give_up_late.ensures)

pub returns : goal.returns
returns g c =
    second_passed g.P.Peer.ways g.R.EventHandler.steps g.R.EventHandler.awaited g.C.Clock.tells g.N.Poller.polls c.args.self.now c.tick.new.self c.accept_some.new.self c.in_ok-tick.field-0 c.in_ok-tick.ensures
    c.accept_some.result
    (settles_join g.P.Peer.ways g.R.EventHandler.steps g.R.EventHandler.awaited g.C.Clock.tells g.N.Poller.polls {A = Unit {0}} {B = Unit {0}} tt c.tick.new.self c.give_up_late.new.self c.accept_some.new.self c.in_ok-give_up_late.ensures
    c.accept_some.result c.accept_some.ensures)
