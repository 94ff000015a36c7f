use Rattle.std.proofs.Common.{sym, subst}
use Rattle.sv_dispatch.specs.Did.{seen}
use Rattle.sv_dispatch.proofs.ContextDeeds.{by_alone}
use Rattle.sv_dispatch.specs.ServedBy.{Alone, ServedBy}
use Rattle.sv_tree.specs.SiteOfDescriptor.{site_of}
use Rattle.sv_context.specs.Answered.{Answers, SendsTo}
use Rattle.sv_context.proofs.responder.Responder.answer_by.Goals as goal
use Rattle.sv_component.specs.Steps.{steps_of}

pub returns-in-Page-clause-answered : goal.returns-in-Page-clause-answered
returns-in-Page-clause-answered g c =
    subst (λ answer. ServedBy (steps_of g.S.Servlet.servlet_step g.F.Filter.filter_step g.L.Listener.listener_step) (Answers (site_of c.args.self.now.site) c.args.canon.now answer)
    c.args.self.now.live c.args.self.now.exchange c.args.journal.now (seen c.request-in-Page.result) c.request-in-Page.new.self.live c.request-in-Page.new.self.exchange c.request-in-Page.new.journal)
    (sym c.in-Page.is) (rw c.get.ensures at c.request-in-Page.ensures.answered)

pub returns-in-Error-clause-answered : goal.returns-in-Error-clause-answered
returns-in-Error-clause-answered g c =
    subst (λ answer. ServedBy (steps_of g.S.Servlet.servlet_step g.F.Filter.filter_step g.L.Listener.listener_step) (Answers (site_of c.args.self.now.site) c.args.canon.now answer)
    c.args.self.now.live c.args.self.now.exchange c.args.journal.now (seen c.error.result) c.error.new.self.live c.error.new.self.exchange c.error.new.journal)
    (sym c.in-Error.is) (rw c.get-in-Error.ensures at c.error.ensures.answered c.args.canon.now)

pub returns-in-SeeOther-clause-answered : goal.returns-in-SeeOther-clause-answered
returns-in-SeeOther-clause-answered g c =
    subst (λ answer. ServedBy (steps_of g.S.Servlet.servlet_step g.F.Filter.filter_step g.L.Listener.listener_step) (Answers (site_of c.args.self.now.site) c.args.canon.now answer)
    c.args.self.now.live c.args.self.now.exchange c.args.journal.now (seen c.send_to.result) c.args.self.now.live c.send_to.new.exchange c.args.journal.now)
    (sym c.in-SeeOther.is)
    (by_alone (steps_of g.S.Servlet.servlet_step g.F.Filter.filter_step g.L.Listener.listener_step) (SendsTo c.in-SeeOther.location)
    c.args.self.now.live c.args.self.now.exchange c.send_to.new.exchange c.args.journal.now (seen c.send_to.result)
    (subst (λ location. Alone (SendsTo location) c.args.self.now.exchange c.send_to.new.exchange (seen c.send_to.result)) c.as_str.ensures c.send_to.ensures))
