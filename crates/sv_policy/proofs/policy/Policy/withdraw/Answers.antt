use Rattle.std.proofs.Common.{ap, ◌∙◌}
use Rattle.sv_policy.proofs.Outcomes.{none_withdrawn, one_withdrawn}
use Rattle.sv_policy.specs.Compiled.{Standing}
use Rattle.sv_policy.specs.Edits.{place_of}
use Rattle.sv_policy.proofs.policy.Policy.withdraw.Goals as goal

pub returns-in-None : goal.returns-in-None
returns-in-None c =
    none_withdrawn c.args.self.now c.args.number
    (c.in-None.ensures ∙ ap (λ constraints. place_of constraints c.args.number) (c.as_slice.ensures.value ∙ ap (λ (standing : Standing). standing.constraints) c.self.view_is))

pub returns-in-Some : goal.returns-in-Some
returns-in-Some c =
    one_withdrawn c.args.self.now c.withdraw_at.new.self c.args.number c.in-Some.place c.withdraw_at.result
    (c.in-Some.ensures ∙ ap (λ constraints. place_of constraints c.args.number) (c.as_slice.ensures.value ∙ ap (λ (standing : Standing). standing.constraints) c.self.view_is))
    c.withdraw_at.ensures
