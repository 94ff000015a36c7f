use Rattle.std.proofs.Common.{refl, sym, ◌∙◌}
use Rattle.sv_arguments.proofs.Lone.{finds_lone, finds_none_lone, lone_method, none_of_audit}
use Rattle.sv_arguments.proofs.given.lone_audit_option.Goals as goal
use Rattle.sv_arguments.specs.declared.key.Key.TheVariants.{Method, Path}
use Rattle.sv_arguments.specs.declared.option_set.OptionSet.TheVariants.{Audit}

pub returns-then-lacks : goal.returns-then-lacks
returns-then-lacks c = λ settings are.
    finds_lone settings Audit Method Path (lone_method settings (sym (c.lacks.ensures settings are) ∙ c.if-lacks.true)) refl

pub returns : goal.returns
returns c = λ settings are. finds_none_lone settings Audit (none_of_audit settings (sym (c.lacks.ensures settings are) ∙ c.if-lacks.false))
