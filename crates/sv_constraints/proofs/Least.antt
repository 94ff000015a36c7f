-- Least numbers of constraints, and findings.
use Rattle.std.proofs.Common.{arith, append-nil, ◌≡◌, ℕ, Bool, true, false, List, [], ◌∷◌, ◌++◌, length, refl, ap, ◌∙◌, min, Option, None, Some, ◌==◌, ◌||◌}
use Rattle.std.specs.Prelude.{map, filter, is_some, is_none, fold, cond}
use Rattle.std.specs.Bool.{then_some}
use Rattle.std.specs.List.{list_any, reduce}
use Rattle.std.proofs.lemmas.List.{map-append}
use Rattle.std.proofs.lemmas.List.Elements.{filter-append}
use Rattle.std.proofs.lemmas.List.Folds.{list_any-append}
use Rattle.sv_constraints.specs.Findings.{lesser}
use Rattle.sv_constraints.specs.Verdict.{least_number, least_where}
use Rattle.sv_constraints.specs.declared.constraint.Constraint.{Constraint}

-- The least of a list of numbers after one more.
fold_more : (n m : ℕ) (ns : List ℕ) → fold min n (ns ++ m ∷ []) ≡ min (fold min n ns) m
fold_more n m [] = refl
fold_more n m (k ∷ ns) = fold_more (min n k) m ns

least_more : (ns : List ℕ) (m : ℕ) → reduce min (ns ++ m ∷ []) ≡ lesser (reduce min ns) (Some m)
least_more [] m = refl
least_more (n ∷ ns) m = ap Some (fold_more n m ns)

lesser_none : (found : Option ℕ) → found ≡ lesser found None
lesser_none None = refl
lesser_none (Some n) = refl

-- The least number after one more constraint.
pub least_number_more : (members : List Constraint) (c : Constraint) → least_number (members ++ c ∷ []) ≡ lesser (least_number members) (Some c.number)
least_number_more members c =
    ap (reduce min) (map-append (λ member. member.number) members (c ∷ [])) ∙ least_more (map (λ member. member.number) members) c.number

-- The least number after one more constraint, which counts only if it passes the test.
least_filtered : (b : Bool) (members : List Constraint) (c : Constraint) → least_number (members ++ cond b (c ∷ []) []) ≡ lesser (least_number members) (then_some b c.number)
least_filtered true members c = least_number_more members c
least_filtered false members c = ap least_number (append-nil members) ∙ lesser_none (least_number members)

pub least_where_more : (test : Constraint → Bool) (members : List Constraint) (c : Constraint) → least_where test (members ++ c ∷ []) ≡ lesser (least_where test members) (then_some (test c) c.number)
least_where_more test members c =
    ap least_number (filter-append test members (c ∷ [])) ∙ least_filtered (test c) (filter test members) c

or_nothing : (a b : Bool) → (a || (b || false)) ≡ (a || b)
or_nothing a true = refl
or_nothing a false = refl

pub any_more : (test : Constraint → Bool) (members : List Constraint) (c : Constraint) → list_any test (members ++ c ∷ []) ≡ (list_any test members || test c)
any_more test members c = list_any-append test members (c ∷ []) ∙ or_nothing (list_any test members) (test c)

-- A list has a least number if a constraint was added to it, or if it had one before.
is_some_cons : (b : Bool) (c : Constraint) (members : List Constraint) → is_some (least_number (cond b (c ∷ members) members)) ≡ (b || is_some (least_number members))
is_some_cons true c members = refl
is_some_cons false c members = refl

pub some_where : (test : Constraint → Bool) (members : List Constraint) → is_some (least_where test members) ≡ list_any test members
some_where test [] = refl
some_where test (c ∷ members) =
    is_some_cons (test c) c (filter test members) ∙ ap (λ found. test c || found) (some_where test members)

pub none_number : (members : List Constraint) → is_none (least_number members) ≡ (length members == 0)
none_number [] = refl
none_number (c ∷ members) = grind arith
