use Rattle.std.proofs.Common.{◌∙◌, ap}
use Rattle.std.specs.Option.{option_copied}
use Rattle.sv_dispatch.specs.Did.{seen}
use Rattle.sv_tree.specs.SiteOfDescriptor.{site_of}
use Rattle.sv_tree.specs.Served.{kept_field}
use Rattle.sv_dispatch.proofs.ContextDeeds.{kept_broken, kept_lacks, kept_so}
use Rattle.sv_dispatch.proofs.pages.show_kept.Goals as goal
use Rattle.sv_component.specs.Steps.{steps_of}

pub returns-then-committed-clause-does : goal.returns-then-committed-clause-does
returns-then-committed-clause-does g c =
    kept_broken (steps_of g.S.Servlet.servlet_step g.F.Filter.filter_step g.L.Listener.listener_step) (site_of c.args.site.now)
    c.args.live.now c.args.live.now c.args.journal.now c.args.journal.now c.args.status (option_copied c.args.kind)
    c.args.exchange.now c.break_off.new.self c.committed.result c.committed.ensures c.if-committed.true c.break_off.ensures

pub returns-in_default-clause-does : goal.returns-in_default-clause-does
returns-in_default-clause-does g c =
    kept_lacks (steps_of g.S.Servlet.servlet_step g.F.Filter.filter_step g.L.Listener.listener_step) (site_of c.args.site.now)
    c.args.live.now c.args.live.now c.args.journal.now c.args.journal.now c.args.status (option_copied c.args.kind)
    c.args.exchange.now c.args.exchange.now c.committed.result c.committed.ensures c.if-committed.false

pub returns-in_default-kept_field-clause-does : goal.returns-in_default-kept_field-clause-does
returns-in_default-kept_field-clause-does g c =
    kept_lacks (steps_of g.S.Servlet.servlet_step g.F.Filter.filter_step g.L.Listener.listener_step) (site_of c.args.site.now)
    c.args.live.now c.args.live.now c.args.journal.now c.args.journal.now c.args.status (option_copied c.args.kind)
    c.args.exchange.now c.args.exchange.now c.committed.result c.committed.ensures c.if-committed.false

pub returns-clause-does : goal.returns-clause-does
returns-clause-does g c =
    kept_so (steps_of g.S.Servlet.servlet_step g.F.Filter.filter_step g.L.Listener.listener_step) (site_of c.args.site.now)
    c.args.live.now c.show.new.live c.args.journal.now c.show.new.journal c.args.status (option_copied c.args.kind)
    c.args.exchange.now c.show.new.exchange c.committed.result c.committed.ensures c.in-Ok-kept_field.field (option_copied c.as_ref.result) (seen c.show.result) c.if-committed.false
    (c.in-Ok-kept_field.ensures ∙ ap kept_field c.kept.ensures) (c.as_ref.ensures.value ∙ c.in-Ok.ensures) c.show.ensures.does
