use Rattle.std.proofs.Common.{Some}
use Rattle.sv_dispatch.specs.Did.{seen}
use Rattle.sv_tree.specs.SiteOfDescriptor.{site_of}
use Rattle.sv_tree.specs.Served.{ShowsError}
use Rattle.sv_context.proofs.Responses.{requested_cut, requested_not, requested_so}
use Rattle.sv_context.proofs.responder.Responder.request_page.Goals as goal
use Rattle.sv_component.specs.Steps.{steps_of}

pub returns-in_default-clause-answered : goal.returns-in_default-clause-answered
returns-in_default-clause-answered g c =
    requested_not (steps_of g.S.Servlet.servlet_step g.F.Filter.filter_step g.L.Listener.listener_step) (site_of c.args.self.now.site) (ShowsError (site_of c.args.self.now.site) c.args.status (Some c.args.page.now))
    c.args.self.now.live c.hear.new.live c.args.self.now.exchange c.args.journal.now c.hear.new.journal c.requires.listeners (c.in_default.ensures.heard c.args.self.now.exchange)

pub returns-in_default-show_error-clause-answered : goal.returns-in_default-show_error-clause-answered
returns-in_default-show_error-clause-answered g c =
    requested_cut (steps_of g.S.Servlet.servlet_step g.F.Filter.filter_step g.L.Listener.listener_step) (site_of c.args.self.now.site) (ShowsError (site_of c.args.self.now.site) c.args.status (Some c.args.page.now))
    c.args.self.now.live c.hear.new.live c.args.self.now.exchange c.args.journal.now c.hear.new.journal c.requires.listeners (c.in-Ok.ensures.heard c.args.self.now.exchange)
    c.show_error.new.live c.show_error.new.exchange c.show_error.new.journal c.in_default-show_error.ensures.does

pub returns-clause-answered : goal.returns-clause-answered
returns-clause-answered g c =
    requested_so (steps_of g.S.Servlet.servlet_step g.F.Filter.filter_step g.L.Listener.listener_step) (site_of c.args.self.now.site) (ShowsError (site_of c.args.self.now.site) c.args.status (Some c.args.page.now))
    c.args.self.now.live c.hear.new.live c.args.self.now.exchange c.args.journal.now c.hear.new.journal c.requires.listeners (c.in-Ok.ensures.heard c.args.self.now.exchange)
    c.show_error.new.live c.show_error.new.exchange c.show_error.new.journal c.hear-2.new.live c.hear-2.new.journal (seen c.hear-2.result) c.in-Ok-show_error.ensures.does (c.hear-2.ensures.heard c.show_error.new.exchange)
