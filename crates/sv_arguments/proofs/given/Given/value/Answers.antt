use Rattle.sv_arguments.proofs.Saying.{says_first}
use Rattle.sv_arguments.proofs.given.Given.value.Goals as goal
use Rattle.sv_arguments.specs.Settings.{values}

pub returns : goal.returns
returns c = λ settings are.
    says_first (values c.args.key settings) c.value_in.result (are.1.1 c.args.key) (c.value_in.ensures settings are.0 are.1.0)
