use Rattle.sv_exchange.specs.Asked.{asked_in}
use Rattle.sv_dispatch.specs.Did.{seen}
use Rattle.sv_tree.specs.SiteOfDescriptor.{site_of}
use Rattle.sv_context.proofs.Handlings.{begun_code, ended_code, handled_so}
use Rattle.sv_context.proofs.responder.Responder.answer.Goals as goal
use Rattle.sv_component.specs.Steps.{steps_of}

pub returns-in-Ok-clause-handles : goal.returns-in-Ok-clause-handles
returns-in-Ok-clause-handles g c = λ policy users store is settled.
    handled_so (steps_of g.S.Servlet.servlet_step g.F.Filter.filter_step g.L.Listener.listener_step)
    c.args.self.now.site policy users c.args.self.now.live store c.args.sessions.now.store (asked_in c.args.request) c.args.admission
    c.requires.components is settled c.begin.new.exchange c.in-Ok.ensures.begun
    c.answer_begun.new.self.live c.answer_begun.new.sessions.store c.args.journal.now c.answer_begun.new.journal (seen c.answer_begun.result) c.answer_begun.ensures.ends

pub returns-in-Ok-clause-status : goal.returns-in-Ok-clause-status
returns-in-Ok-clause-status g c =
    ended_code (steps_of g.S.Servlet.servlet_step g.F.Filter.filter_step g.L.Listener.listener_step)
    (site_of c.args.self.now.site) c.args.request.canon.now c.args.admission.entry c.args.admission.event c.args.admission.answer
    c.args.self.now.live c.answer_begun.new.self.live c.begin.new.exchange c.answer_begun.new.sessions.store c.args.journal.now c.answer_begun.new.journal c.answer_begun.result
    c.answer_begun.ensures.ends
    (begun_code (asked_in c.args.request) c.args.self.now.site.context_path c.args.self.now.site.app.session.cookie c.args.admission.session c.args.sessions.now.store c.begin.new.exchange c.in-Ok.ensures.begun)
