-- The constraint that decides is one of those that cover the request.
use Rattle.std.proofs.Common.{◌≡◌, ◌⊎◌, ◌<◌, ◌≤◌, ℕ, Bool, true, false, not, ◌||◌, ◌==◌, List, [], ◌∷◌, length, map, min, fold, Option, Some, None, inl, inr, refl, subst, cond, arith, ltb}
use Rattle.std.specs.Prelude.{filter, is_none}
use Rattle.std.specs.List.{list_any}
use Rattle.std.proofs.lemmas.Bool.{cases_Bool, ltb-false, ltb-true}
use Rattle.std.proofs.lemmas.Option.{same_Some}
use Rattle.sv_constraints.specs.Decision.{why_of}
use Rattle.sv_constraints.specs.Verdict.{admits_caller, is_open, least_number, least_where, permits_plain, precludes, verdict_at}
use Rattle.sv_constraints.specs.declared.constraint.Constraint.{Constraint}
use Rattle.sv_constraints.specs.declared.constraint.Rules.{Rules}
use Rattle.sv_constraints.specs.declared.owned_decision.OwnedDecision.{OwnedDecision}
use Rattle.sv_realm.specs.declared.caller.Caller.{Caller}

abbrev has_number : ℕ → Constraint → Bool
has_number number constraint = constraint.number == number

-- The number of a decision, if any, is that of a member.
abbrev Names : List Constraint → OwnedDecision → Type 0
Names members decision = (number : ℕ) → (why_of decision).number ≡ Some number → list_any (has_number number) members ≡ true

either : (members : List Constraint) (b : Bool) (one other : OwnedDecision) → Names members one → Names members other → Names members (cond b one other)
either members true one other names others = names
either members false one other names others = others

or_under : (x y : Bool) → y ≡ true → (x || y) ≡ true
or_under true y is = refl
or_under false y is = is

or_wide : (x y rest : Bool) → (x || rest) ≡ true → (x || (y || rest)) ≡ true
or_wide true y rest is = refl
or_wide false y rest is = or_under y rest is

or_more : (x y z : Bool) → (y ≡ true → z ≡ true) → (x || y) ≡ true → (x || z) ≡ true
or_more true y z more is = refl
or_more false y z more is = more is

lesser_is : (a b : ℕ) → (min a b ≡ a) ⊎ (min a b ≡ b)
lesser_is a b =
    elim (cases_Bool (ltb a b)) [
      | inl e ↦ inl (let less : a < b = ltb-true a b e in omega arith)
      | inr e ↦ inr (let least : b ≤ a = ltb-false a b e in omega arith)
    ]

from_lesser : (a b number : ℕ) (rest : Bool) → ((min a b == number) || rest) ≡ true → ((a == number) || ((b == number) || rest)) ≡ true
from_lesser a b number rest is =
    elim (lesser_is a b) [
      | inl e ↦ or_wide (a == number) (b == number) rest (subst (λ least. ((least == number) || rest) ≡ true) e is)
      | inr e ↦ or_under (a == number) _ (subst (λ least. ((least == number) || rest) ≡ true) e is)
    ]

same_number : (a : ℕ) → ((a == a) || false) ≡ true
same_number a = grind arith

reached : (a number : ℕ) (members : List Constraint) → fold min a (map (λ member. member.number) members) ≡ number
    → ((a == number) || list_any (has_number number) members) ≡ true
reached a number [] is = subst (λ other. ((a == other) || false) ≡ true) is (same_number a)
reached a number (member ∷ members) is =
    from_lesser a member.number number (list_any (has_number number) members) (reached (min a member.number) number members is)

of_least : (members : List Constraint) (number : ℕ) → least_number members ≡ Some number → list_any (has_number number) members ≡ true
of_least [] number is = cc
of_least (member ∷ members) number is = reached member.number number members (same_Some _ _ is)

kept : (p : Constraint → Bool) (b : Bool) (member : Constraint) (passed members : List Constraint)
    → (list_any p passed ≡ true → list_any p members ≡ true)
    → list_any p (cond b (member ∷ passed) passed) ≡ true → (p member || list_any p members) ≡ true
kept p true member passed members more is = or_more (p member) _ _ more is
kept p false member passed members more is = or_under (p member) _ (more is)

any_filtered : (p test : Constraint → Bool) (members : List Constraint) → list_any p (filter test members) ≡ true → list_any p members ≡ true
any_filtered p test [] is = is
any_filtered p test (member ∷ members) is = kept p (test member) member (filter test members) members (any_filtered p test members) is

of_least_where : (test : Constraint → Bool) (members : List Constraint) (number : ℕ) → least_where test members ≡ Some number
    → list_any (has_number number) members ≡ true
of_least_where test members number is = any_filtered (has_number number) test members (of_least (filter test members) number is)

nobody : (members : List Constraint) (number : ℕ) → None ≡ Some number → list_any (has_number number) members ≡ true
nobody members number is = cc

pub names_member : (rules : Rules) (caller : Option Caller) (pattern : Option (List ℕ)) (members : List Constraint)
    → Names members (verdict_at rules caller pattern members)
names_member rules caller pattern members =
    either members (is_none pattern) _ _ (nobody members)
    (either members (length members == 0) _ _ (either members rules.deny_uncovered _ _ (nobody members) (nobody members))
    (either members (list_any precludes members) _ _ (of_least_where precludes members)
    (either members (not (list_any permits_plain members)) _ _ (of_least members)
    (either members (list_any is_open members) _ _ (of_least_where is_open members)
    (either members (is_none caller) _ _ (of_least members)
    (either members (list_any (admits_caller rules caller) members) _ _ (of_least_where (admits_caller rules caller) members) (of_least members)))))))
