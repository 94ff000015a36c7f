use Rattle.std.proofs.Common.{None, Some, subst}
use Rattle.sv_dispatch.specs.ServedBy.{Alone}
use Rattle.sv_tree.specs.Served.{Resets}
use Rattle.sv_dispatch.specs.Did.{seen}
use Rattle.sv_tree.specs.SiteOfDescriptor.{site_of}
use Rattle.sv_dispatch.proofs.ContextDeeds.{on_ok, page_ends, page_not, page_so}
use Rattle.sv_dispatch.proofs.pages.show_page.Goals as goal
use Rattle.sv_component.specs.Steps.{steps_of}

pub returns-in_default-clause-does : goal.returns-in_default-clause-does
returns-in_default-clause-does g c =
    page_not (steps_of g.S.Servlet.servlet_step g.F.Filter.filter_step g.L.Listener.listener_step) (site_of c.args.site.now)
    c.args.live.now c.args.live.now c.args.journal.now c.args.journal.now c.args.sought.now.status c.args.sought.now.field c.args.page.now
    c.args.exchange.now c.reset.new.exchange
    (subst (λ its_field. Alone (Resets c.args.sought.now.status its_field) c.args.exchange.now c.reset.new.exchange None) c.as_ref.ensures.value c.in_default.ensures)

pub returns-in_default-dispatch-clause-does : goal.returns-in_default-dispatch-clause-does
returns-in_default-dispatch-clause-does g c =
    page_ends (steps_of g.S.Servlet.servlet_step g.F.Filter.filter_step g.L.Listener.listener_step) (site_of c.args.site.now)
    c.args.live.now c.dispatch.new.live c.args.journal.now c.dispatch.new.journal c.args.sought.now.status c.args.sought.now.field c.args.page.now
    c.args.exchange.now c.reset.new.exchange
    (subst (λ its_field. Alone (Resets c.args.sought.now.status its_field) c.args.exchange.now c.reset.new.exchange (Some tt)) c.as_ref.ensures.value c.in-Ok.ensures) c.dispatch.new.exchange c.in_default-dispatch.ensures.does

pub returns-clause-does : goal.returns-clause-does
returns-clause-does g c =
    page_so (steps_of g.S.Servlet.servlet_step g.F.Filter.filter_step g.L.Listener.listener_step) (site_of c.args.site.now)
    c.args.live.now c.dispatch.new.live c.args.journal.now c.dispatch.new.journal c.args.sought.now.status c.args.sought.now.field c.args.page.now
    c.args.exchange.now c.reset.new.exchange
    (subst (λ its_field. Alone (Resets c.args.sought.now.status its_field) c.args.exchange.now c.reset.new.exchange (Some tt)) c.as_ref.ensures.value c.in-Ok.ensures) c.dispatch.new.exchange c.in-Ok-dispatch.finished c.shown.new.exchange (seen c.shown.result)
    c.in-Ok-dispatch.ensures.does c.shown.ensures

pub returns-clause-whole : goal.returns-clause-whole
returns-clause-whole g c = on_ok c.shown.result c.in-Ok-dispatch.ensures.whole
