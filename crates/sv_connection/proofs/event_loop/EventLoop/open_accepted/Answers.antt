use Rattle.std.proofs.Common.{Bool, true, false}
use Rattle.sv_connection.proofs.Driving.{none_opened, not_stored, open_refused, opened_next}
use Rattle.sv_connection.proofs.event_loop.EventLoop.open_accepted.Goals as goal

pub returns-in-Ok-false : goal.returns-in-Ok-false
returns-in-Ok-false g c =
    none_opened g.P.Peer.ways g.R.EventHandler.steps g.R.EventHandler.awaited g.C.Clock.tells g.N.Poller.polls false c.args.self.now c.open.new.self c.in-Ok-false.field-0 c.in-Ok-false.field-0-test c.in-Ok-false.ensures.opens

pub returns-in-Err : goal.returns-in-Err
returns-in-Err g c = not_stored g.P.Peer.ways g.R.EventHandler.steps g.R.EventHandler.awaited g.C.Clock.tells g.N.Poller.polls Bool c.args.self.now c.open.new.self c.in-Err.ensures.opens

pub returns-in_err-step : goal.returns-in_err-step
returns-in_err-step g c =
    open_refused g.P.Peer.ways g.R.EventHandler.steps g.R.EventHandler.awaited g.C.Clock.tells g.N.Poller.polls c.args.self.now c.requires c.step.new.self c.open.new.self c.in-Ok-true.field-0 c.in-Ok-true.field-0-test c.in-Ok-true.ensures.opens c.in-Ok-true.ensures.within
    c.next-connection.result c.next-connection.ensures c.in_err-step.field-0.0 c.in_err-step.ensures c.from_residual.result c.from_residual.ensures.1

pub returns : goal.returns
returns g c =
    opened_next g.P.Peer.ways g.R.EventHandler.steps g.R.EventHandler.awaited g.C.Clock.tells g.N.Poller.polls true c.args.self.now c.requires c.step.new.self c.open.new.self c.in-Ok-true.field-0 c.in-Ok-true.field-0-test c.in-Ok-true.ensures.opens c.in-Ok-true.ensures.within
    c.next-connection.result c.next-connection.ensures c.in_ok-step.field-0 c.in_ok-step.ensures
