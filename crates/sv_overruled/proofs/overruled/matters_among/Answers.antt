use Rattle.std.proofs.Common.{◌&&◌, ℕ, Bool, List, map, not, ap, sym, ◌∙◌}
use Rattle.std.specs.Borrow.{Bor}
use Rattle.sv_constraints.specs.declared.constraint.Constraint.{Constraint}
use Rattle.sv_constraints.specs.declared.constraint.Rules.{Rules}
use Rattle.sv_overruled.specs.Overruled.{decide_alike, has_number, others}
use Rattle.sv_overruled.proofs.OverruledSteps.{equal_numbers, own_differs_at, some_seen}
use Rattle.sv_overruled.proofs.overruled.matters_among.Goals as goal

abbrev these : List (Bor Constraint) → List Constraint
these members = map (λ (member : Bor Constraint). member.now) members

abbrev own_differs : Rules → ℕ → List Constraint → Constraint → Bool
own_differs rules number members own = has_number number own && not (decide_alike rules own (others number members))

pub returns-then-not-branch : goal.returns-then-not-branch
returns-then-not-branch c =
    some_seen (λ (member : Bor Constraint). member.now) (own_differs c.args.rules.now c.args.number (these c.args.members.now)) c.args.members.now c.loop-member.member-index c.member-item.result c.loop-member-test.true
    (ap (λ (member : Bor Constraint). own_differs c.args.rules.now c.args.number (these c.args.members.now) member.now) (sym c.member-item.is)
    ∙ own_differs_at (has_number c.args.number c.member-item.result.now) (decide_alike c.args.rules.now c.member-item.result.now (others c.args.number (these c.args.members.now))) (equal_numbers c.member-item.result.now.number c.args.number c.if-member-number.true)
    (ap (decide_alike c.args.rules.now c.member-item.result.now) (sym c.in_ok-others.ensures ∙ ap these (sym c.as_slice.ensures.value)) ∙ sym c.in_ok-decide_alike.ensures ∙ c.if-not-branch.true))
