use Rattle.sv_context.proofs.Conducts.{expiry_moves, expiry_notes}
use Rattle.sv_context.proofs.hosted.ContextContext.expire.Goals as goal
use Rattle.sv_component.specs.Steps.{steps_of}

pub returns-clause-expires : goal.returns-clause-expires
returns-clause-expires g c =
    expiry_notes (steps_of g.S.Servlet.servlet_step g.F.Filter.filter_step g.L.Listener.listener_step) c.args.moment c.args.self.now c.expire.new.self c.args.journal.now c.expire.new.journal c.expire.ensures

pub returns-clause-moves : goal.returns-clause-moves
returns-clause-moves g c =
    expiry_moves (steps_of g.S.Servlet.servlet_step g.F.Filter.filter_step g.L.Listener.listener_step) c.args.moment c.args.self.now c.expire.new.self c.args.journal.now c.expire.new.journal c.expire.ensures
