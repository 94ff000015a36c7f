use Rattle.std.proofs.Common.{arith, refl}
use Rattle.sv_arguments.proofs.Saying.{viewer_user}
use Rattle.sv_arguments.proofs.Setting.{either_none}
use Rattle.sv_arguments.proofs.audit_options.viewer_in.Goals as goal
use Rattle.sv_arguments.specs.Settings.{values}
use Rattle.sv_arguments.specs.declared.key.Key.TheVariants.{As, Role}

pub returns-in-Some : goal.returns-in-Some
returns-in-Some c = λ settings are.
    viewer_user (values As settings) (values Role settings) c.in-Some.user (c.in-Some.ensures settings are)
    (either_none c.args.given.now.set settings are.1 As Role (0, omega arith, refl))
