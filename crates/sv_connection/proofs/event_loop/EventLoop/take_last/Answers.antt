use Rattle.std.proofs.Common.{refl}
use Rattle.sv_connection.specs.declared.poller.PollEvent.TheVariants.{Crowded, Incoming, Second}
use Rattle.sv_connection.proofs.FinishingLemmas.{asked_last, nothing_done, ready_last}
use Rattle.sv_connection.proofs.event_loop.EventLoop.take_last.Goals as goal

pub returns-in-Ready : goal.returns-in-Ready
returns-in-Ready g c =
    ready_last g.P.Peer.ways g.R.EventHandler.steps g.R.EventHandler.awaited g.C.Clock.tells g.N.Poller.polls c.args.told c.in-Ready.number c.in-Ready.is c.args.self.now c.send_out.new.self c.send_out.ensures

pub returns-in-Asked : goal.returns-in-Asked
returns-in-Asked g c =
    asked_last g.P.Peer.ways g.R.EventHandler.steps g.R.EventHandler.awaited g.C.Clock.tells g.N.Poller.polls c.args.told c.in-Asked.is c.args.self.now c.answer_status.new.self c.figures.result c.figures.ensures c.answer_status.ensures

pub returns-in-Incoming : goal.returns-in-Incoming
returns-in-Incoming g c = nothing_done g.P.Peer.ways g.R.EventHandler.steps g.R.EventHandler.awaited g.C.Clock.tells g.N.Poller.polls c.args.told Incoming c.in-Incoming.is (λ known. refl) c.args.self.now

pub returns-in-Crowded : goal.returns-in-Crowded
returns-in-Crowded g c = nothing_done g.P.Peer.ways g.R.EventHandler.steps g.R.EventHandler.awaited g.C.Clock.tells g.N.Poller.polls c.args.told Crowded c.in-Crowded.is (λ known. refl) c.args.self.now

pub returns-in-Second : goal.returns-in-Second
returns-in-Second g c = nothing_done g.P.Peer.ways g.R.EventHandler.steps g.R.EventHandler.awaited g.C.Clock.tells g.N.Poller.polls c.args.told Second c.in-Second.is (λ known. refl) c.args.self.now
