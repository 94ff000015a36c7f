use Rattle.std.proofs.Common.{Bool, false, rules, true}
use Rattle.sv_connection.proofs.Looping.{eased, no_more, settles_failed}
use Rattle.sv_connection.proofs.event_loop.EventLoop.serve.Goals as goal

pub returns-in_err-serve_one : goal.returns-in_err-serve_one
returns-in_err-serve_one g c =
    settles_failed g.P.Peer.ways g.R.EventHandler.steps g.R.EventHandler.awaited g.C.Clock.tells g.N.Poller.polls {D = Bool} c.args.self.now c.serve_one.new.self c.serve_one.result c.in_err-serve_one.field-0.0 c.in_err-serve_one.was
    c.from_residual.result c.from_residual.ensures.1 c.serve_one.ensures.moves

pub returns-then-not-branch : goal.returns-then-not-branch
returns-then-not-branch g c =
    no_more g.P.Peer.ways g.R.EventHandler.steps g.R.EventHandler.awaited g.C.Clock.tells g.N.Poller.polls {A = Bool} {B = Unit {0}} false tt c.args.self.now c.serve_one.new.self c.in_ok-serve_one.ensures.moves (c.in_ok-serve_one.ensures.within (search rules))

pub returns : goal.returns
returns g c =
    eased g.P.Peer.ways g.R.EventHandler.steps g.R.EventHandler.awaited g.C.Clock.tells g.N.Poller.polls {A = Bool} {B = Unit {0}} true c.args.self.now c.serve_one.new.self c.ease.new.self c.in_ok-serve_one.ensures.moves
    c.ease.result c.ease.ensures.moves c.ease.ensures.within
