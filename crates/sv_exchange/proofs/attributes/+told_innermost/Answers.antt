use Rattle.std.proofs.Common.{sym, ◌∙◌}
use Rattle.sv_exchange.proofs.Telling.{told_here, told_outside}
use Rattle.sv_exchange.proofs.attributes.+told_innermost.Goals as goal

pub returns-in-Some-rest_of : goal.returns-in-Some-rest_of
returns-in-Some-rest_of t c =
    c.told_by.ensures ∙ sym (told_here c.args.exchange.now c.args.name.now c.args.dispatches.now c.in-Some.outer.now c.in-Some.dispatch.now c.in-Some.ensures.cases c.in-Some-rest_of.rest.now (sym c.in-Some-rest_of.ensures))

pub returns-in-None-rest_of : goal.returns-in-None-rest_of
returns-in-None-rest_of t c =
    c.told_innermost.ensures ∙ sym (told_outside c.args.exchange.now c.args.name.now c.args.dispatches.now c.in-Some.outer.now c.in-Some.dispatch.now c.in-Some.ensures.cases (sym c.in-None-rest_of.ensures))
