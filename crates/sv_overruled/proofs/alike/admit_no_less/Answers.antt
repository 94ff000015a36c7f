use Rattle.std.proofs.Common.{List, map, subst, sym, ◌∙◌}
use Rattle.std.specs.Borrow.{Bor}
use Rattle.std.specs.List.{list_any}
use Rattle.sv_constraints.specs.Verdict.{is_open}
use Rattle.sv_constraints.specs.declared.constraint.Constraint.{Constraint}
use Rattle.sv_policy.proofs.Listed.{any_seen}
use Rattle.sv_text.specs.Gives.{GivesAnswer}
use Rattle.sv_overruled.specs.Overruled.{admit_its_callers}
use Rattle.sv_overruled.proofs.OverruledSteps.{by_any, by_none, by_rest}
use Rattle.sv_overruled.proofs.alike.admit_no_less.Goals as goal

abbrev these : List (Bor Constraint) → List Constraint
these others = map (λ (other : Bor Constraint). other.now) others

pub returns-then-is_any_open : goal.returns-then-is_any_open
returns-then-is_any_open c =
    by_any (list_any is_open (these c.args.others.now)) _ (any_seen is_open (λ (other : Bor Constraint). other.now) c.args.others.now ∙ sym c.is_any_open.ensures ∙ c.if-is_any_open.true)

pub returns-then-is_open : goal.returns-then-is_open
returns-then-is_open c =
    by_none (list_any is_open (these c.args.others.now)) (is_open c.args.constraint.now) (admit_its_callers c.args.declared.now c.args.constraint.now (these c.args.others.now))
    (any_seen is_open (λ (other : Bor Constraint). other.now) c.args.others.now ∙ sym c.is_any_open.ensures ∙ c.if-is_any_open.false) (sym c.is_open.ensures ∙ c.if-is_open.true)

pub returns : goal.returns
returns c =
    subst (GivesAnswer c.admit_its_callers.result)
    (by_rest (list_any is_open (these c.args.others.now)) (is_open c.args.constraint.now) (admit_its_callers c.args.declared.now c.args.constraint.now (these c.args.others.now))
    (any_seen is_open (λ (other : Bor Constraint). other.now) c.args.others.now ∙ sym c.is_any_open.ensures ∙ c.if-is_any_open.false) (sym c.is_open.ensures ∙ c.if-is_open.false))
    c.admit_its_callers.ensures
