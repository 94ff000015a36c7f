use Rattle.std.proofs.Common.{sym, ◌∙◌}
use Rattle.sv_arguments.proofs.Unfit.{finds_unfit, none_without_form, none_without_server, one_value}
use Rattle.sv_arguments.proofs.given.unfit_form.Goals as goal
use Rattle.sv_arguments.specs.Settings.{values}
use Rattle.sv_arguments.specs.declared.key.Key.TheVariants.{Format}

pub returns-then-not-is_among : goal.returns-then-not-is_among
returns-then-not-is_among c = λ settings are.
    none_without_server settings (sym (c.is_among.ensures settings are) ∙ c.if-not-is_among.true)

pub returns-in_default : goal.returns-in_default
returns-in_default c = λ settings are. none_without_form settings (c.in_default.ensures settings are.0 are.1.0)

pub returns : goal.returns
returns c = λ settings are.
    finds_unfit settings c.in-Some.name
    (one_value (values Format settings) c.in-Some.name (are.1.1 Format) (c.in-Some.ensures settings are.0 are.1.0))
    (sym (c.is_among.ensures settings are) ∙ c.if-not-is_among.false) c.unfit_named.result c.unfit_named.ensures
