use Rattle.std.proofs.Common.{subst}
use Rattle.std.specs.Option.{option_copied}
use Rattle.sv_container.specs.Explaining.{explanation_of}
use Rattle.sv_policy.specs.Fault.{explain_fault}
use Rattle.sv_text.specs.Gives.{Gives}
use Rattle.sv_container.proofs.container.Container.explain.Goals as goal

pub returns : goal.returns
returns g c =
    subst (λ contexts. Gives explain_fault c.explain_request.result
    (explanation_of contexts c.args.method.now c.args.target.now (option_copied c.args.user))) c.contexts.ensures c.explain_request.ensures
