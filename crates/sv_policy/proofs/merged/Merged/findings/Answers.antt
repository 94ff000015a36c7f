use Rattle.std.specs.Option.{option_copied}
use Rattle.sv_policy.proofs.Admitted.{found_for}
use Rattle.sv_policy.proofs.merged.Merged.findings.Goals as goal

pub returns : goal.returns
returns c = λ rules members is. found_for rules members c.args.self.now (option_copied c.args.caller) c.admitting.result is c.admitting.ensures
