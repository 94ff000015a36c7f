use Rattle.std.proofs.Common.{ℕ, ◌≡◌, Ok, if◌then◌else◌, filter, nat_lt, subst, sym, ◌∙◌}
use Rattle.sv_constraints.specs.declared.constraint.Constraint.{Constraint}
use Rattle.sv_policy.specs.Compiled.{compiled}
use Rattle.sv_policy.specs.Resuming.{Resumes, append_each, appended_ones, compiled_after}
use Rattle.sv_policy.proofs.resuming.resume_with.Goals as goal

pub returns-in-Ok : goal.returns-in-Ok
returns-in-Ok c =
    let constraints = c.args.constraints.items in
    let same = sym c.same_constraints.ensures ∙ c.if-same_constraints.false in
    let kept = compiled_after constraints c.args.rules.now c.args.greatest in
    let plain = compiled c.args.declared.now c.args.rules.now in
    let above = λ (last : ℕ) (constraint : Constraint). nat_lt last constraint.number in
    let numbered = subst (λ last. Resumes (append_each c.in-Ok.policy (filter (above last) constraints)) c.append_above.result)
    c.greatest_number.ensures c.append_above.ensures in
    let declared_so : c.in-Ok.policy ≡ plain = c.in-Ok.ensures in
    let declared = subst (λ policy. Resumes (append_each policy (appended_ones c.args.earlier.now constraints)) c.append_above.result)
    declared_so numbered in
    subst (λ b. Resumes (if b then Ok kept else append_each plain (appended_ones c.args.earlier.now constraints)) c.append_above.result)
    (sym same) declared
