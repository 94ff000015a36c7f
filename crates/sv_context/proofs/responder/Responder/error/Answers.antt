use Rattle.std.proofs.Common.{None}
use Rattle.sv_dispatch.specs.Did.{seen}
use Rattle.sv_tree.specs.SiteOfDescriptor.{site_of}
use Rattle.sv_tree.specs.Served.{ShowsError}
use Rattle.sv_context.proofs.Responses.{journal_stays, quiet_error, whole_stays}
use Rattle.sv_context.proofs.responder.Responder.error.Goals as goal
use Rattle.sv_component.specs.Steps.{steps_of}

pub returns-in-None-clause-whole : goal.returns-in-None-clause-whole
returns-in-None-clause-whole g c =
    whole_stays c.show_error.result c.args.journal.now c.show_error.new.journal c.requires.whole
    (journal_stays (steps_of g.S.Servlet.servlet_step g.F.Filter.filter_step g.L.Listener.listener_step) (ShowsError (site_of c.args.self.now.site) c.args.status None)
    c.args.self.now.live c.show_error.new.live c.args.self.now.exchange c.show_error.new.exchange c.args.journal.now c.show_error.new.journal (seen c.show_error.result)
    (quiet_error (site_of c.args.self.now.site) c.args.status) c.show_error.ensures.does)
