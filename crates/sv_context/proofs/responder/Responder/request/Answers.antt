use Rattle.sv_dispatch.specs.Did.{seen}
use Rattle.sv_tree.specs.SiteOfDescriptor.{site_of}
use Rattle.sv_tree.specs.Served.{Served}
use Rattle.sv_context.proofs.Responses.{requested_cut, requested_not, requested_so}
use Rattle.sv_context.proofs.responder.Responder.request.Goals as goal
use Rattle.sv_component.specs.Steps.{steps_of}

pub returns-in_default-clause-answered : goal.returns-in_default-clause-answered
returns-in_default-clause-answered g c =
    requested_not (steps_of g.S.Servlet.servlet_step g.F.Filter.filter_step g.L.Listener.listener_step) (site_of c.args.self.now.site) (Served (site_of c.args.self.now.site) c.args.kind c.args.canon.now)
    c.args.self.now.live c.hear.new.live c.args.self.now.exchange c.args.journal.now c.hear.new.journal c.requires.listeners (c.in_default.ensures.heard c.args.self.now.exchange)

pub returns-in_default-serve-clause-answered : goal.returns-in_default-serve-clause-answered
returns-in_default-serve-clause-answered g c =
    requested_cut (steps_of g.S.Servlet.servlet_step g.F.Filter.filter_step g.L.Listener.listener_step) (site_of c.args.self.now.site) (Served (site_of c.args.self.now.site) c.args.kind c.args.canon.now)
    c.args.self.now.live c.hear.new.live c.args.self.now.exchange c.args.journal.now c.hear.new.journal c.requires.listeners (c.in-Ok.ensures.heard c.args.self.now.exchange)
    c.serve.new.live c.serve.new.exchange c.serve.new.journal c.in_default-serve.ensures.does

pub returns-clause-answered : goal.returns-clause-answered
returns-clause-answered g c =
    requested_so (steps_of g.S.Servlet.servlet_step g.F.Filter.filter_step g.L.Listener.listener_step) (site_of c.args.self.now.site) (Served (site_of c.args.self.now.site) c.args.kind c.args.canon.now)
    c.args.self.now.live c.hear.new.live c.args.self.now.exchange c.args.journal.now c.hear.new.journal c.requires.listeners (c.in-Ok.ensures.heard c.args.self.now.exchange)
    c.serve.new.live c.serve.new.exchange c.serve.new.journal c.hear-2.new.live c.hear-2.new.journal (seen c.hear-2.result) c.in-Ok-serve.ensures.does (c.hear-2.ensures.heard c.serve.new.exchange)
