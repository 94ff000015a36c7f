use Rattle.std.proofs.Common.{None, Option, Some, subst}
use Rattle.sv_session.specs.declared.event.Event.{Event}
use Rattle.sv_tree.specs.SiteOfDescriptor.{site_of}
use Rattle.sv_context.specs.Responding.{RespondsNoted}
use Rattle.sv_context.proofs.responder.Responder.answer_begun.Goals as goal
use Rattle.sv_component.specs.Steps.{steps_of}

pub returns-in-Ok-clause-ends : goal.returns-in-Ok-clause-ends
returns-in-Ok-clause-ends g c = (
  c.respond_noted-done.new.self.exchange,
  subst (λ (event : Option Event). RespondsNoted (steps_of g.S.Servlet.servlet_step g.F.Filter.filter_step g.L.Listener.listener_step) (site_of c.args.self.now.site) c.args.canon.now
      c.args.entry event c.args.answer c.args.self.now.live c.args.self.now.exchange c.args.journal.now (Some tt)
      c.respond_noted-done.new.self.live c.respond_noted-done.new.self.exchange c.respond_noted-done.new.journal) c.as_ref.ensures.value c.in-Ok.ensures.responds,
  c.finish-response.ensures.response,
  c.finish-response.ensures.sessions,
  c.in-Ok.ensures.whole,
)

pub returns-clause-ends : goal.returns-clause-ends
returns-clause-ends g c = (
  c.respond_noted-done.new.self.exchange,
  subst (λ (event : Option Event). RespondsNoted (steps_of g.S.Servlet.servlet_step g.F.Filter.filter_step g.L.Listener.listener_step) (site_of c.args.self.now.site) c.args.canon.now
      c.args.entry event c.args.answer c.args.self.now.live c.args.self.now.exchange c.args.journal.now None
      c.respond_noted-done.new.self.live c.respond_noted-done.new.self.exchange c.respond_noted-done.new.journal) c.as_ref.ensures.value c.in-Err.ensures.responds,
)
