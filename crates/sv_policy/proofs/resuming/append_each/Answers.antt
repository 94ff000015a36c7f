use Rattle.std.proofs.Common.{◌≡◌, ◌∷◌, Err, subst, sym, ap, ◌∙◌, arith}
use Rattle.std.proofs.lemmas.Grind.{common_steps}
use Rattle.sv_policy.specs.Edits.{GivesOutcome, append_outcome}
use Rattle.sv_policy.specs.Resuming.{append_each, unnumbered}
use Rattle.sv_policy.proofs.Resumed.{refused_among}
use Rattle.sv_policy.proofs.resuming.append_each.Goals as goal

pub returns-in-Err : goal.returns-in-Err
returns-in-Err c =
    let policy = c.loop-constraint.policy in
    let constraint = c.in-Some.constraint in
    let left = c.pop_front.new.self.items in
    let are : c.loop-constraint.waiting.items ≡ constraint ∷ left = grind (arith, common_steps) in
    let all : append_each policy (constraint ∷ left) ≡ append_each c.args.policy c.args.constraints.items =
    ap (append_each policy) (sym are) ∙ c.loop-constraint.invariant in
    refused_among policy c.append.new.self c.in-Err.fault (append_outcome policy (unnumbered constraint))
    (append_each c.args.policy c.args.constraints.items) left all
    (subst (λ addition. GivesOutcome policy c.append.new.self (Err c.in-Err.fault) (append_outcome policy addition)) c.unnumbered.ensures
    (subst (λ result. GivesOutcome policy c.append.new.self result (append_outcome policy c.unnumbered.result)) c.in-Err.is c.append.ensures))
