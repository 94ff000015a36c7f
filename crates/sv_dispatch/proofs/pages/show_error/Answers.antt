use Rattle.std.proofs.Common.{ℕ, List, None, refl, ap}
use Rattle.std.specs.Option.{option_copied}
use Rattle.sv_dispatch.specs.Did.{seen}
use Rattle.sv_exchange.specs.declared.error.KeptError.{KeptError}
use Rattle.sv_tree.specs.SiteOfDescriptor.{site_of}
use Rattle.sv_message.specs.Phrases.{phrase_of}
use Rattle.sv_dispatch.proofs.ContextDeeds.{error_broken, error_not, error_so}
use Rattle.sv_dispatch.proofs.ExchangeDeeds.{keeps_not, keeps_so}
use Rattle.sv_dispatch.proofs.pages.show_error.Goals as goal
use Rattle.sv_component.specs.Steps.{steps_of}

abbrev said : ℕ → List ℕ → KeptError
said its_status its_text = record { status = its_status; text = its_text; servlet = None; field = None }

pub returns-in_default-clause-does : goal.returns-in_default-clause-does
returns-in_default-clause-does g c =
    error_not (steps_of g.S.Servlet.servlet_step g.F.Filter.filter_step g.L.Listener.listener_step) (site_of c.args.site.now)
    c.args.live.now c.args.live.now c.args.journal.now c.args.journal.now c.args.status (option_copied c.args.page) (said c.args.status c.phrase_of.result.now)
    c.args.exchange.now c.keep_error.new.self (ap (said c.args.status) c.phrase_of.ensures)
    (keeps_not (said c.args.status c.phrase_of.result.now) c.args.exchange.now c.keep_error.new.self c.in_default.ensures.refused)

pub returns-then-committed-clause-does : goal.returns-then-committed-clause-does
returns-then-committed-clause-does g c =
    error_broken (steps_of g.S.Servlet.servlet_step g.F.Filter.filter_step g.L.Listener.listener_step) (site_of c.args.site.now)
    c.args.live.now c.args.live.now c.args.journal.now c.args.journal.now c.args.status (option_copied c.args.page) (said c.args.status c.phrase_of.result.now)
    c.args.exchange.now c.keep_error.new.self c.break_off.new.self (ap (said c.args.status) c.phrase_of.ensures)
    c.committed.result c.committed.ensures c.if-committed.true
    (keeps_so (said c.args.status c.phrase_of.result.now) c.args.exchange.now c.keep_error.new.self c.in-Ok.ensures.kept) c.break_off.ensures

pub returns-clause-does : goal.returns-clause-does
returns-clause-does g c =
    error_so (steps_of g.S.Servlet.servlet_step g.F.Filter.filter_step g.L.Listener.listener_step) (site_of c.args.site.now)
    c.args.live.now c.show.new.live c.args.journal.now c.show.new.journal c.args.status (option_copied c.args.page) (said c.args.status c.phrase_of.result.now)
    c.args.exchange.now c.keep_error.new.self (ap (said c.args.status) c.phrase_of.ensures) c.show.new.exchange (seen c.show.result)
    c.committed.result c.committed.ensures c.if-committed.false
    (keeps_so (said c.args.status c.phrase_of.result.now) c.args.exchange.now c.keep_error.new.self c.in-Ok.ensures.kept) c.show.ensures.does

pub returns-then-not-whole-clause-does : goal.returns-then-not-whole-clause-does
returns-then-not-whole-clause-does g c =
    error_not (steps_of g.S.Servlet.servlet_step g.F.Filter.filter_step g.L.Listener.listener_step) (site_of c.args.site.now)
    c.args.live.now c.args.live.now c.args.journal.now c.args.journal.now c.args.status (option_copied c.args.page) (said c.args.status (phrase_of c.args.status))
    c.args.exchange.now c.args.exchange.now refl
    (keeps_not (said c.args.status (phrase_of c.args.status)) c.args.exchange.now c.args.exchange.now refl)
