use Rattle.std.proofs.Common.{List, map, subst, sym, ◌∙◌}
use Rattle.std.specs.Borrow.{Bor}
use Rattle.std.specs.List.{list_any}
use Rattle.sv_policy.specs.Merged.{admits_everyone}
use Rattle.sv_constraints.specs.declared.constraint.Constraint.{Constraint}
use Rattle.sv_policy.proofs.Listed.{any_seen}
use Rattle.sv_text.specs.Gives.{GivesAnswer}
use Rattle.sv_overruled.specs.Overruled.{mean_its_roles}
use Rattle.sv_overruled.proofs.OverruledSteps.{by_any, by_none, by_rest}
use Rattle.sv_overruled.proofs.alike.admit_its_callers.Goals as goal

abbrev these : List (Bor Constraint) → List Constraint
these others = map (λ (other : Bor Constraint). other.now) others

pub returns-then-any_admits_everyone : goal.returns-then-any_admits_everyone
returns-then-any_admits_everyone c =
    by_any (list_any admits_everyone (these c.args.others.now)) _ (any_seen admits_everyone (λ (other : Bor Constraint). other.now) c.args.others.now ∙ sym c.any_admits_everyone.ensures ∙ c.if-any_admits_everyone.true)

pub returns-then-names_everyone : goal.returns-then-names_everyone
returns-then-names_everyone c =
    by_none (list_any admits_everyone (these c.args.others.now)) (admits_everyone c.args.constraint.now) (mean_its_roles c.args.declared.now c.args.constraint.now (these c.args.others.now))
    (any_seen admits_everyone (λ (other : Bor Constraint). other.now) c.args.others.now ∙ sym c.any_admits_everyone.ensures ∙ c.if-any_admits_everyone.false) (sym c.names_everyone.ensures ∙ c.if-names_everyone.true)

pub returns : goal.returns
returns c =
    subst (GivesAnswer c.mean_its_roles.result)
    (by_rest (list_any admits_everyone (these c.args.others.now)) (admits_everyone c.args.constraint.now) (mean_its_roles c.args.declared.now c.args.constraint.now (these c.args.others.now))
    (any_seen admits_everyone (λ (other : Bor Constraint). other.now) c.args.others.now ∙ sym c.any_admits_everyone.ensures ∙ c.if-any_admits_everyone.false) (sym c.names_everyone.ensures ∙ c.if-names_everyone.false))
    c.mean_its_roles.ensures
