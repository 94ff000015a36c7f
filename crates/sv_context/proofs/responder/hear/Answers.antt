use Rattle.sv_context.proofs.Responses.{by_hearing}
use Rattle.sv_context.proofs.responder.hear.Goals as goal
use Rattle.sv_component.specs.Steps.{steps_of}

pub returns-clause-heard : goal.returns-clause-heard
returns-clause-heard g c = λ exchange.
    by_hearing (steps_of g.S.Servlet.servlet_step g.F.Filter.filter_step g.L.Listener.listener_step) c.args.live.now c.tell_all.new.self exchange c.args.journal.now c.tell_all.new.journal
    c.args.event.now c.unless_broken.result c.tell_all.ensures.made c.tell_all.ensures.stands
