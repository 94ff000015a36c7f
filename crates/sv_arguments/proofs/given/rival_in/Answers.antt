use Rattle.std.proofs.Common.{sym, ◌∙◌}
use Rattle.sv_arguments.proofs.Finding.{item_fails, item_passes, items_end}
use Rattle.sv_arguments.proofs.given.rival_in.Goals as goal
use Rattle.sv_arguments.specs.Settings.{given_rival, is_given}
use Rattle.sv_arguments.specs.declared.key.Key.TheVariants.{Control}

pub returns-then-is_among : goal.returns-then-is_among
returns-then-is_among c = λ settings are.
    item_passes (is_given settings) c.rivals-other-items.result.now c.loop-other.other-index (given_rival settings c.args.key) Control
    c.loop-other-test.true (sym (c.is_among.ensures settings are) ∙ c.if-is_among.true) (c.loop-other.invariant settings are)

pub loop-other-preserved : goal.loop-other-preserved
loop-other-preserved c = λ settings are.
    item_fails (is_given settings) c.rivals-other-items.result.now c.loop-other.other-index (given_rival settings c.args.key) Control
    c.loop-other-test.true (sym (c.is_among.ensures settings are) ∙ c.if-is_among.false) (c.loop-other.invariant settings are)

pub returns : goal.returns
returns c = λ settings are.
    items_end (is_given settings) c.rivals-other-items.result.now c.loop-other.other-index (given_rival settings c.args.key)
    c.loop-other-test.false (c.loop-other.invariant settings are)
