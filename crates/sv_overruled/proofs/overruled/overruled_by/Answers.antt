use Rattle.std.proofs.Common.{◌||◌, ◌==◌, ℕ, Bool, List, length, not, ap, sym, ◌∙◌, Global}
use Rattle.std.specs.Borrow.{Bor}
use Rattle.std.specs.Prelude.{Vec}
use Rattle.std.specs.List.{list_any}
use Rattle.sv_constraints.specs.declared.constraint.Constraint.{Constraint}
use Rattle.sv_constraints.specs.declared.constraint.Rules.{Rules}
use Rattle.sv_overruled.specs.Overruled.{matters_among, others}
use Rattle.sv_overruled.proofs.OverruledSteps.{one_kept, one_left, these}
use Rattle.sv_overruled.proofs.overruled.overruled_by.Goals.{then-not-branch+in_ok-push, else-not-branch}
use Rattle.sv_overruled.proofs.overruled.overruled_by.Goals as goal

abbrev matters : Rules → List (Bor Constraint) → List (Vec (Bor Constraint) Global) → ℕ → Bool
matters rules members coverings number = length (others number (these members)) == 0 || list_any (λ covering. matters_among rules number (these covering.items)) coverings

abbrev test : Rules → List (Bor Constraint) → List (Vec (Bor Constraint) Global) → ℕ → Bool
test rules members coverings number = not (matters rules members coverings number)

abbrev its_items : Vec ℕ Global → List ℕ
its_items numbers = numbers.items

pub loop-member-preserved : goal.loop-member-preserved
loop-member-preserved c =
    elim c.if-not-branch.branch [
      | then-not-branch+in_ok-push w ↦ one_kept (test c.args.rules.now c.args.members.now c.args.coverings.now) c.args.members.now c.loop-member.member-index c.member-item.result c.loop-member-test.true c.member-item.is c.loop-member.numbers.items c.if-not-branch.numbers.items c.loop-member.invariant
          (ap not (sym c.in_ok-matters.ensures ∙ w.if-not-branch.true)) (ap its_items w.numbers-is ∙ w.in_ok-push.ensures.items)
      | else-not-branch w ↦ one_left (test c.args.rules.now c.args.members.now c.args.coverings.now) c.args.members.now c.loop-member.member-index c.member-item.result c.loop-member-test.true c.member-item.is c.loop-member.numbers.items c.if-not-branch.numbers.items c.loop-member.invariant
          (ap not (sym c.in_ok-matters.ensures ∙ w.if-not-branch.false)) (ap its_items w.numbers-is)
    ]
