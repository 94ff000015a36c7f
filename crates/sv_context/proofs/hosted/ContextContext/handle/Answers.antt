use Rattle.sv_dispatch.specs.Did.{seen}
use Rattle.sv_run.specs.Contexts.{request_of}
use Rattle.sv_context.specs.Conduct.{asked_of}
use Rattle.sv_context.proofs.Conducts.{handling_moves, hosted_cuts, hosted_handles}
use Rattle.sv_context.proofs.hosted.ContextContext.handle.Goals as goal
use Rattle.sv_component.specs.Steps.{steps_of}

pub returns-clause-handles : goal.returns-clause-handles
returns-clause-handles g c =
    hosted_handles (steps_of g.S.Servlet.servlet_step g.F.Filter.filter_step g.L.Listener.listener_step) (request_of c.args.message.now c.args.canon.now c.args.moment c.args.words)
    c.args.self.now c.handle.new.self c.args.journal.now c.handle.new.journal c.handle.result c.handle.ensures.handles

pub returns-clause-moves : goal.returns-clause-moves
returns-clause-moves g c =
    handling_moves (steps_of g.S.Servlet.servlet_step g.F.Filter.filter_step g.L.Listener.listener_step) (asked_of c.args.self.now (request_of c.args.message.now c.args.canon.now c.args.moment c.args.words))
    c.args.self.now c.handle.new.self c.args.journal.now c.handle.new.journal (seen c.handle.result) c.handle.ensures.handles

pub returns-clause-cut_short : goal.returns-clause-cut_short
returns-clause-cut_short g c =
    hosted_cuts (steps_of g.S.Servlet.servlet_step g.F.Filter.filter_step g.L.Listener.listener_step) (request_of c.args.message.now c.args.canon.now c.args.moment c.args.words)
    c.args.self.now c.handle.new.self c.args.journal.now c.handle.new.journal c.handle.result c.handle.ensures.handles
