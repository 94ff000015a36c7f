use Rattle.std.specs.Option.{option_copied}
use Rattle.sv_dispatch.specs.Did.{seen}
use Rattle.sv_tree.specs.SiteOfDescriptor.{site_of}
use Rattle.sv_context.proofs.Responses.{answered_not, answered_so}
use Rattle.sv_context.proofs.responder.Responder.respond.Goals as goal
use Rattle.sv_component.specs.Steps.{steps_of}

pub returns-in_default-clause-answered : goal.returns-in_default-clause-answered
returns-in_default-clause-answered g c =
    answered_not (steps_of g.S.Servlet.servlet_step g.F.Filter.filter_step g.L.Listener.listener_step) (site_of c.args.self.now.site) c.args.self.now.live c.tell_first.new.live
    c.args.self.now.exchange c.args.journal.now c.tell_first.new.journal c.args.canon.now (option_copied c.args.event) c.args.answer.now
    (c.in_default.ensures.told (site_of c.args.self.now.site) c.args.self.now.exchange c.requires.counts.listeners)

pub returns-clause-answered : goal.returns-clause-answered
returns-clause-answered g c =
    answered_so (steps_of g.S.Servlet.servlet_step g.F.Filter.filter_step g.L.Listener.listener_step) (site_of c.args.self.now.site) c.args.self.now.live c.tell_first.new.live
    c.args.self.now.exchange c.args.journal.now c.tell_first.new.journal c.args.canon.now (option_copied c.args.event) c.args.answer.now
    c.answer_by.new.self.live c.answer_by.new.self.exchange c.answer_by.new.journal (seen c.answer_by.result)
    (c.in-Ok.ensures.told (site_of c.args.self.now.site) c.args.self.now.exchange c.requires.counts.listeners) c.answer_by.ensures.answered
