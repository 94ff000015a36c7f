use Rattle.std.proofs.Common.{◌≡◌, ℕ, List, IfOk, length, ap, rules, subst, ◌∙◌}
use Rattle.std.specs.Borrow.{Bor}
use Rattle.std.specs.Prelude.{nat_lt}
use Rattle.sv_constraints.specs.declared.constraint.Constraint.{Constraint}
use Rattle.sv_policy.proofs.Listed.{length_seen}
use Rattle.sv_overruled.specs.Overruled.{overruled_on}
use Rattle.sv_overruled.specs.declared.overruled.TheConstants.{MAX_COMPARED_AT_PATTERN}
use Rattle.sv_overruled.proofs.OverruledSteps.{more, no_more, none_of_many, on_copies, these}
use Rattle.sv_overruled.proofs.overruled.overruled_at.Goals as goal

pub returns-then-members-gt-MAX_COMPARED_AT_PATTERN : goal.returns-then-members-gt-MAX_COMPARED_AT_PATTERN
returns-then-members-gt-MAX_COMPARED_AT_PATTERN c =
    c.new.ensures.items
    ∙ none_of_many c.args.rules.now c.args.pattern.now (these c.args.members.now)
    (ap (nat_lt MAX_COMPARED_AT_PATTERN) (length_seen (λ (member : Bor Constraint). member.now) c.args.members.now) ∙ more MAX_COMPARED_AT_PATTERN (length c.args.members.now) c.if-members-gt-MAX_COMPARED_AT_PATTERN.true)

pub returns : goal.returns
returns c =
    let are : these c.in_ok-borrowed.borrowed.items ≡ c.in_ok-copies.copies.items = search rules in
    subst (λ (them : List ℕ). IfOk c.overruled_on.result (λ numbers. numbers.items ≡ them))
    (ap (overruled_on c.args.rules.now c.args.pattern.now) (ap these c.as_slice.ensures.value ∙ are ∙ c.in_ok-copies.ensures)
    ∙ on_copies c.args.rules.now c.args.pattern.now (these c.args.members.now)
    (ap (nat_lt MAX_COMPARED_AT_PATTERN) (length_seen (λ (member : Bor Constraint). member.now) c.args.members.now) ∙ no_more MAX_COMPARED_AT_PATTERN (length c.args.members.now) c.if-members-gt-MAX_COMPARED_AT_PATTERN.false))
    c.overruled_on.ensures
