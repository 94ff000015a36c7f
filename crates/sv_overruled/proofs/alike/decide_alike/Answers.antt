use Rattle.std.proofs.Common.{◌==◌, Bool, List, length, map, subst, sym, ◌∙◌}
use Rattle.std.specs.Borrow.{Bor}
use Rattle.std.specs.List.{list_any}
use Rattle.sv_constraints.specs.Verdict.{precludes}
use Rattle.sv_constraints.specs.declared.constraint.Constraint.{Constraint}
use Rattle.sv_policy.proofs.Listed.{any_seen}
use Rattle.sv_text.specs.Gives.{GivesAnswer}
use Rattle.sv_overruled.specs.Overruled.{admit_no_less, permit_no_less}
use Rattle.sv_overruled.proofs.OverruledSteps.{alike_barred, alike_rest, empty_seen, not_alike, not_permitted}
use Rattle.sv_overruled.proofs.alike.decide_alike.Goals as goal

abbrev these : List (Bor Constraint) → List Constraint
these others = map (λ (other : Bor Constraint). other.now) others

abbrev are_none : List (Bor Constraint) → Bool
are_none others = length (these others) == 0

abbrev any_bars : List (Bor Constraint) → Bool
any_bars others = list_any precludes (these others)

pub returns-then-any_precludes : goal.returns-then-any_precludes
returns-then-any_precludes c =
    alike_barred (are_none c.args.others.now) (any_bars c.args.others.now) (precludes c.args.constraint.now) _
    (empty_seen (λ (other : Bor Constraint). other.now) c.args.others.now ∙ sym c.is_empty.ensures ∙ c.if-is_empty.false)
    (any_seen precludes (λ (other : Bor Constraint). other.now) c.args.others.now ∙ sym c.any_precludes.ensures ∙ c.if-any_precludes.true)

pub returns-then-precludes : goal.returns-then-precludes
returns-then-precludes c =
    not_alike (are_none c.args.others.now) (any_bars c.args.others.now) (precludes c.args.constraint.now) _
    (any_seen precludes (λ (other : Bor Constraint). other.now) c.args.others.now ∙ sym c.any_precludes.ensures ∙ c.if-any_precludes.false) (sym c.precludes.ensures ∙ c.if-precludes.true)

pub returns-then-not-permit_no_less : goal.returns-then-not-permit_no_less
returns-then-not-permit_no_less c =
    not_permitted (are_none c.args.others.now) (any_bars c.args.others.now) (precludes c.args.constraint.now) (permit_no_less c.args.constraint.now (these c.args.others.now)) (admit_no_less c.args.rules.now.declared c.args.constraint.now (these c.args.others.now))
    (any_seen precludes (λ (other : Bor Constraint). other.now) c.args.others.now ∙ sym c.any_precludes.ensures ∙ c.if-any_precludes.false) (sym c.permit_no_less.ensures ∙ c.if-not-permit_no_less.true)

pub returns : goal.returns
returns c =
    subst (GivesAnswer c.admit_no_less.result)
    (alike_rest (are_none c.args.others.now) (any_bars c.args.others.now) (precludes c.args.constraint.now) (permit_no_less c.args.constraint.now (these c.args.others.now)) (admit_no_less c.args.rules.now.declared c.args.constraint.now (these c.args.others.now))
    (empty_seen (λ (other : Bor Constraint). other.now) c.args.others.now ∙ sym c.is_empty.ensures ∙ c.if-is_empty.false)
    (any_seen precludes (λ (other : Bor Constraint). other.now) c.args.others.now ∙ sym c.any_precludes.ensures ∙ c.if-any_precludes.false) (sym c.precludes.ensures ∙ c.if-precludes.false)
    (sym c.permit_no_less.ensures ∙ c.if-not-permit_no_less.false))
    (subst (λ declared. GivesAnswer c.admit_no_less.result (admit_no_less declared c.args.constraint.now (these c.args.others.now))) c.as_slice.ensures c.admit_no_less.ensures)
