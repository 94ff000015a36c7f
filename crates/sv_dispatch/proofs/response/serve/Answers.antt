use Rattle.std.proofs.Common.{subst}
use Rattle.sv_dispatch.specs.Did.{seen}
use Rattle.sv_dispatch.specs.ServedBy.{ServedBy}
use Rattle.sv_tree.specs.SiteOfDescriptor.{site_of}
use Rattle.sv_tree.specs.Served.{Settled}
use Rattle.sv_dispatch.proofs.ContextDeeds.{not_refused, refused_too, serve_not, serve_so}
use Rattle.sv_dispatch.proofs.response.serve.Goals as goal
use Rattle.sv_component.specs.Steps.{steps_of}

pub returns-in_default-clause-does : goal.returns-in_default-clause-does
returns-in_default-clause-does g c =
    serve_not (steps_of g.S.Servlet.servlet_step g.F.Filter.filter_step g.L.Listener.listener_step) (site_of c.args.site.now)
    c.args.live.now c.dispatch.new.live c.args.journal.now c.dispatch.new.journal c.args.kind c.args.canon.now
    c.args.exchange.now c.dispatch.new.exchange c.in_default.ensures.does

pub returns-clause-does : goal.returns-clause-does
returns-clause-does g c =
    serve_so (steps_of g.S.Servlet.servlet_step g.F.Filter.filter_step g.L.Listener.listener_step) (site_of c.args.site.now)
    c.args.live.now c.dispatch.new.live c.args.journal.now c.dispatch.new.journal c.args.kind c.args.canon.now
    c.args.exchange.now c.dispatch.new.exchange c.in-Ok.finished c.settle.new.live c.settle.new.exchange c.settle.new.journal (seen c.settle.result)
    c.in-Ok.ensures.does (subst (λ site. ServedBy (steps_of g.S.Servlet.servlet_step g.F.Filter.filter_step g.L.Listener.listener_step) (Settled (site_of site) c.in-Ok.finished)
    c.dispatch.new.live c.dispatch.new.exchange c.dispatch.new.journal (seen c.settle.result) c.settle.new.live c.settle.new.exchange c.settle.new.journal)
    c.dispatch.ensures.site c.settle.ensures.does)

pub returns-in_default-clause-broken : goal.returns-in_default-clause-broken
returns-in_default-clause-broken g c broken =
    refused_too c.args.live.now c.dispatch.new.live c.args.exchange.now c.dispatch.new.exchange c.args.journal.now c.dispatch.new.journal
    (c.in_default.ensures.broken broken)

pub returns-clause-broken : goal.returns-clause-broken
returns-clause-broken g c broken =
    not_refused c.args.live.now c.dispatch.new.live c.args.exchange.now c.dispatch.new.exchange c.args.journal.now c.dispatch.new.journal
    c.in-Ok.finished (c.in-Ok.ensures.broken broken)
