use Rattle.std.proofs.Common.{sym, subst, ◌∙◌}
use Rattle.sv_text.specs.Gives.{GivesAnswer}
use Rattle.sv_exchange.proofs.Naming.{named_here, named_outside}
use Rattle.sv_exchange.proofs.parameters.+first_of_dispatches.Goals as goal

pub returns-in-Some-2 : goal.returns-in-Some-2
returns-in-Some-2 t c =
    sym (named_here c.args.name.now c.args.dispatches.now c.in-Some.outer.now c.in-Some.dispatch.now c.in-Some.ensures.cases c.in-Some-2.value (sym (rw c.query.ensures at c.in_ok-value-in-Some.ensures) ∙ c.in-Some-2.is))

pub returns-in-None-2 : goal.returns-in-None-2
returns-in-None-2 t c =
    subst (GivesAnswer c.first_of_dispatches.result)
    (sym (named_outside c.args.name.now c.args.dispatches.now c.in-Some.outer.now c.in-Some.dispatch.now c.in-Some.ensures.cases (sym (rw c.query.ensures at c.in_ok-value-in-Some.ensures) ∙ c.in-None-2.is)))
    c.first_of_dispatches.ensures
