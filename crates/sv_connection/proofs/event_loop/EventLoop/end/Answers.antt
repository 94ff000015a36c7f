use Rattle.sv_run.specs.Seen.{happening_of}
use Rattle.sv_connection.proofs.Driving.{end_done, end_failed}
use Rattle.sv_connection.proofs.event_loop.EventLoop.end.Goals as goal

pub returns-in_err-step : goal.returns-in_err-step
returns-in_err-step g c =
    end_failed g.P.Peer.ways g.R.EventHandler.steps g.R.EventHandler.awaited g.C.Clock.tells g.N.Poller.polls c.args.number c.args.cause c.args.self.now c.close.new.self c.step.new.self (happening_of c.over_event.result) c.over_event.ensures
    c.if-not-close.ensures c.in_err-step.field-0.0 c.in_err-step.ensures c.from_residual.result c.from_residual.ensures.1

pub returns : goal.returns
returns g c =
    end_done g.P.Peer.ways g.R.EventHandler.steps g.R.EventHandler.awaited g.C.Clock.tells g.N.Poller.polls c.args.number c.args.cause c.args.self.now c.close.new.self c.step.new.self (happening_of c.over_event.result) c.over_event.ensures
    c.if-not-close.ensures c.in_ok-step.field-0 c.in_ok-step.ensures
