use Rattle.std.proofs.Common.{ap, sym, subst}
use Rattle.std.specs.Option.{option_copied}
use Rattle.sv_dispatch.specs.Did.{seen}
use Rattle.sv_dispatch.specs.ServedBy.{Alone, ServedBy}
use Rattle.sv_tree.specs.SiteOfDescriptor.{site_of}
use Rattle.sv_tree.specs.Served.{Pages, Plain}
use Rattle.sv_dispatch.proofs.ContextDeeds.{by_alone, on_ok}
use Rattle.sv_dispatch.proofs.pages.show.Goals as goal
use Rattle.sv_component.specs.Steps.{steps_of}

pub returns-in-None-clause-does : goal.returns-in-None-clause-does
returns-in-None-clause-does g c =
    subst (λ page. ServedBy (steps_of g.S.Servlet.servlet_step g.F.Filter.filter_step g.L.Listener.listener_step) (Pages (site_of c.args.site.now) c.args.sought.now.status c.args.sought.now.field page)
    c.args.live.now c.args.exchange.now c.args.journal.now (seen c.plain.result) c.args.live.now c.plain.new.exchange c.args.journal.now)
    (sym (ap option_copied c.in-None.is))
    (by_alone (steps_of g.S.Servlet.servlet_step g.F.Filter.filter_step g.L.Listener.listener_step) (Plain c.args.sought.now.status c.args.sought.now.field)
    c.args.live.now c.args.exchange.now c.plain.new.exchange c.args.journal.now (seen c.plain.result)
    (subst (λ its_field. Alone (Plain c.args.sought.now.status its_field) c.args.exchange.now c.plain.new.exchange (seen c.plain.result)) c.as_ref.ensures.value c.plain.ensures))

pub returns-in-None-clause-whole : goal.returns-in-None-clause-whole
returns-in-None-clause-whole g c = on_ok c.plain.result c.requires.whole
