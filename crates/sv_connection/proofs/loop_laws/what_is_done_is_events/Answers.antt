use Rattle.sv_connection.proofs.Joining.{takes_react}
use Rattle.sv_connection.proofs.loop_laws.what_is_done_is_events.Goals as goal

pub returns : goal.returns
returns g c = λ before after notes goes. takes_react g.R.EventHandler.steps g.R.EventHandler.awaited g.C.Clock.tells before.handler after.handler notes goes.went.takes
