use Rattle.sv_connection.specs.declared.poller.PollEvent.TheVariants.{Crowded, Incoming, Ready}
use Rattle.sv_connection.proofs.Taking.{asked_as, taken_as}
use Rattle.sv_connection.proofs.event_loop.EventLoop.take.Goals as goal

pub returns-in-Ready : goal.returns-in-Ready
returns-in-Ready g c =
    taken_as g.P.Peer.ways g.R.EventHandler.steps g.R.EventHandler.awaited g.C.Clock.tells g.N.Poller.polls c.args.told (Ready c.in-Ready.number) c.in-Ready.is tt c.args.self.now c.serve.new.self c.serve.result c.serve.ensures

pub returns-in-Incoming : goal.returns-in-Incoming
returns-in-Incoming g c =
    taken_as g.P.Peer.ways g.R.EventHandler.steps g.R.EventHandler.awaited g.C.Clock.tells g.N.Poller.polls c.args.told Incoming c.in-Incoming.is tt c.args.self.now c.accept_some.new.self c.accept_some.result c.accept_some.ensures

pub returns-in-Crowded : goal.returns-in-Crowded
returns-in-Crowded g c =
    taken_as g.P.Peer.ways g.R.EventHandler.steps g.R.EventHandler.awaited g.C.Clock.tells g.N.Poller.polls c.args.told Crowded c.in-Crowded.is tt c.args.self.now c.make_way.new.self c.make_way.result c.make_way.ensures

pub returns-in-Asked : goal.returns-in-Asked
returns-in-Asked g c =
    asked_as g.P.Peer.ways g.R.EventHandler.steps g.R.EventHandler.awaited g.C.Clock.tells g.N.Poller.polls c.args.told c.in-Asked.is c.args.self.now c.answer_query.new.self c.answer_query.result c.answer_query.ensures
