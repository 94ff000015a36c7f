use Rattle.std.proofs.Common.{List, ap, map, sym, ◌∙◌}
use Rattle.std.specs.Prelude.{filter}
use Rattle.std.specs.Borrow.{Bor}
use Rattle.sv_constraints.specs.declared.constraint.Constraint.{Constraint}
use Rattle.sv_policy.specs.Patterns.{lists_pattern}
use Rattle.sv_findings.proofs.UncomparedSteps.{if_ok_map, may_decide}
use Rattle.sv_findings.specs.Dead.{decides_nothing}
use Rattle.sv_findings.specs.Unsearched.{are_too_many}
use Rattle.sv_findings.proofs.unsearched.is_uncompared.Goals as goal

abbrev these : List (Bor Constraint) → List Constraint
these members = map (λ (member : Bor Constraint). member.now) members

pub returns-in-Some : goal.returns-in-Some
returns-in-Some c = λ constraints are.
    if_ok_map c.are_too_many.result
    (λ many is. is ∙ ap (λ members. are_too_many members c.args.pattern.now) (ap these c.as_slice.ensures.value ∙ c.in-Some.ensures constraints are)
    ∙ may_decide (decides_nothing c.args.listed.now c.args.pattern.now) (are_too_many (filter (λ (constraint : Constraint). lists_pattern constraint c.args.pattern.now) constraints) c.args.pattern.now)
    (sym c.decides_nothing.ensures ∙ c.if-decides_nothing.false))
    c.are_too_many.ensures

pub returns-in-None : goal.returns-in-None
returns-in-None c = λ constraints are.
    if_ok_map c.are_too_many-in-None.result
    (λ many is. is ∙ ap (λ members. are_too_many members c.args.pattern.now) (sym (c.in-None.ensures constraints are))
    ∙ may_decide (decides_nothing c.args.listed.now c.args.pattern.now) (are_too_many (filter (λ (constraint : Constraint). lists_pattern constraint c.args.pattern.now) constraints) c.args.pattern.now)
    (sym c.decides_nothing.ensures ∙ c.if-decides_nothing.false))
    c.are_too_many-in-None.ensures
