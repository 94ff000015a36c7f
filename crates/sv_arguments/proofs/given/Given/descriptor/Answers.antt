use Rattle.sv_arguments.proofs.Saying.{says_found}
use Rattle.sv_arguments.proofs.Setting.{value_proper}
use Rattle.sv_arguments.proofs.given.Given.descriptor.Goals as goal
use Rattle.sv_arguments.specs.Settings.{values}
use Rattle.sv_arguments.specs.Values.{IsDescriptor}

pub returns : goal.returns
returns c = λ settings are means.
    says_found IsDescriptor (values c.args.key settings) c.in_ok-word.word c.descriptor_in.result (c.in_ok-word.ensures settings are)
    (λ word is. means word (value_proper c.args.self.now.set c.args.key word settings are.1.0 is)) c.descriptor_in.ensures
