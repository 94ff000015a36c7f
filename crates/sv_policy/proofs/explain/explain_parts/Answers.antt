use Rattle.std.proofs.Common.{subst}
use Rattle.std.specs.Option.{option_copied}
use Rattle.sv_policy.proofs.Contexts.{policies_same}
use Rattle.sv_policy.specs.Explanation.{explanation}
use Rattle.sv_policy.specs.Fault.{explain_fault}
use Rattle.sv_text.specs.Gives.{Gives}
use Rattle.sv_policy.proofs.explain.explain_parts.Goals as goal

pub returns : goal.returns
returns c =
    subst (λ contexts. Gives explain_fault c.explain_request.result (explanation contexts c.args.method.now c.args.target.now (option_copied c.args.user)))
    (policies_same c.args.contexts.now) c.explain_request.ensures
