use Rattle.std.proofs.Common.{Some, refl, sym, subst}
use Rattle.sv_dispatch.specs.Did.{seen}
use Rattle.sv_dispatch.specs.ServedBy.{ServedBy}
use Rattle.sv_tree.specs.SiteOfDescriptor.{site_of}
use Rattle.sv_tree.specs.Does.{gives}
use Rattle.sv_tree.specs.Served.{Settled, Shows}
use Rattle.sv_tree.specs.declared.limits.TheConstants.{INTERNAL_SERVER_ERROR}
use Rattle.sv_dispatch.proofs.ContextDeeds.{by_alone}
use Rattle.sv_dispatch.proofs.response.settle.Goals as goal
use Rattle.sv_component.specs.Steps.{steps_of}

pub returns-in-Done-clause-does : goal.returns-in-Done-clause-does
returns-in-Done-clause-does g c =
    subst (λ finished. ServedBy (steps_of g.S.Servlet.servlet_step g.F.Filter.filter_step g.L.Listener.listener_step) (Settled (site_of c.args.site.now) finished)
    c.args.live.now c.args.exchange.now c.args.journal.now (Some tt) c.args.live.now c.args.exchange.now c.args.journal.now)
    (sym c.in-Done.is)
    (by_alone (steps_of g.S.Servlet.servlet_step g.F.Filter.filter_step g.L.Listener.listener_step) (gives tt)
    c.args.live.now c.args.exchange.now c.args.exchange.now c.args.journal.now (Some tt) (λ standings. (refl, refl, refl)))

pub returns-in-Error-clause-does : goal.returns-in-Error-clause-does
returns-in-Error-clause-does g c =
    subst (λ finished. ServedBy (steps_of g.S.Servlet.servlet_step g.F.Filter.filter_step g.L.Listener.listener_step) (Settled (site_of c.args.site.now) finished)
    c.args.live.now c.args.exchange.now c.args.journal.now (seen c.show_kept.result) c.show_kept.new.live c.show_kept.new.exchange c.show_kept.new.journal)
    (sym c.in-Error.is) c.show_kept.ensures.does

pub returns-in-Failed-clause-does : goal.returns-in-Failed-clause-does
returns-in-Failed-clause-does g c =
    subst (λ finished. ServedBy (steps_of g.S.Servlet.servlet_step g.F.Filter.filter_step g.L.Listener.listener_step) (Settled (site_of c.args.site.now) finished)
    c.args.live.now c.args.exchange.now c.args.journal.now (seen c.show_kept-in-Failed.result) c.show_kept-in-Failed.new.live c.show_kept-in-Failed.new.exchange c.show_kept-in-Failed.new.journal)
    (sym c.in-Failed.is)
    (subst (λ kind. ServedBy (steps_of g.S.Servlet.servlet_step g.F.Filter.filter_step g.L.Listener.listener_step) (Shows (site_of c.args.site.now) INTERNAL_SERVER_ERROR (Some kind))
    c.args.live.now c.args.exchange.now c.args.journal.now (seen c.show_kept-in-Failed.result) c.show_kept-in-Failed.new.live c.show_kept-in-Failed.new.exchange c.show_kept-in-Failed.new.journal)
    c.as_str.ensures c.show_kept-in-Failed.ensures.does)
