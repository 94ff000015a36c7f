use Rattle.sv_readiness.proofs.AnsweringLemmas.{as_asked}
use Rattle.sv_readiness.proofs.sockets.SocketsPoller.answer_query.Goals as goal

pub returns : goal.returns
returns g c =
    as_asked g.R.EventHandler.steps g.R.Queries.explains g.R.Queries.uncovers g.R.Queries.constrains g.R.Queries.stands c.args.figures c.args.self.now.control
    c.args.handler.now c.answer_line.new.handler c.answer_line.result c.answer_line.ensures
