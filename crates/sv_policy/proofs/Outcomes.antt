-- The results of edits and the states after them.
use Rattle.std.proofs.lemmas.Bool.{false≢true}
use Rattle.std.proofs.Common.{arith, subst, ◌≡◌, ℕ, ◌+◌, ◌<◌, Bool, true, false, not, List, [], ◌∷◌, length, get_or, refl, ap, sym, ◌∙◌, cond, Option, Some, None, is_some, Result, Ok, Err, nat_lt, slice_get, one-add}
use Rattle.std.specs.Prelude.{find, position}
use Rattle.std.specs.List.{position_or_len}
use Rattle.std.proofs.lemmas.Option.{get_or_from_slice_get}
use Rattle.sv_constraints.specs.declared.constraint.Constraint.{Constraint}
use Rattle.sv_policy.specs.Compiled.{Standing}
use Rattle.sv_policy.specs.Edits.{GivesOutcome, has_number, place_of, withdraw_outcome, withdrawal, without_place}
use Rattle.sv_policy.specs.declared.edit_fault.EditFault.{EditFault}
use Rattle.sv_policy.specs.declared.edit_fault.EditFault.TheVariants.{NoSuch}

-- ---- Withdrawing.
module _ (test : Constraint → Bool) where
  found_at : (x : Constraint) (xs : List Constraint) (passes : Bool) → find test xs ≡ slice_get xs (position_or_len test xs) → cond passes (Some x) (find test xs) ≡ slice_get (x ∷ xs) (cond (not passes) (1 + position_or_len test xs) 0)
  found_at x xs true below = refl
  found_at x xs false below = below ∙ sym (ap (slice_get (x ∷ xs)) (one-add (position_or_len test xs)))

  found_there : (xs : List Constraint) → find test xs ≡ slice_get xs (position_or_len test xs)
  found_there [] = refl
  found_there (x ∷ xs) = found_at x xs (test x) (found_there xs)

  some_at : (x : Constraint) (xs : List Constraint) (passes : Bool) → is_some (find test xs) ≡ nat_lt (position_or_len test xs) (length xs) → is_some (cond passes (Some x) (find test xs)) ≡ nat_lt (cond (not passes) (1 + position_or_len test xs) 0) (length (x ∷ xs))
  some_at x xs true below = grind arith
  some_at x xs false below = below ∙ grind arith

  some_there : (xs : List Constraint) → is_some (find test xs) ≡ nat_lt (position_or_len test xs) (length xs)
  some_there [] = refl
  some_there (x ∷ xs) = some_at x xs (test x) (some_there xs)

  none_at : (xs : List Constraint) (within : Bool) (found : Option Constraint) → nat_lt (position_or_len test xs) (length xs) ≡ within → find test xs ≡ found → None ≡ cond within (Some (position_or_len test xs)) None → None ≡ found
  none_at xs true found at is none = absurd (false≢true (ap is_some none))
  none_at xs false None at is none = refl
  none_at xs false (Some x) at is none = absurd (false≢true (sym at ∙ sym (some_there xs) ∙ ap is_some is))

  none_found : (xs : List Constraint) → None ≡ position test xs → None ≡ find test xs
  none_found xs none = none_at xs (nat_lt (position_or_len test xs) (length xs)) (find test xs) refl refl none

  place_at : (xs : List Constraint) (within : Bool) (place : ℕ) → nat_lt (position_or_len test xs) (length xs) ≡ within → Some place ≡ cond within (Some (position_or_len test xs)) None → (place ≡ position_or_len test xs) × (place < length xs)
  place_at xs true place at is =
      let same : place ≡ position_or_len test xs = some_same place (position_or_len test xs) is in
      (same, (let below : position_or_len test xs < length xs = grind (arith, at) in omega (arith, same, below)))
    where
      some_same : (a b : ℕ) → Some a ≡ Some b → a ≡ b
      some_same a b e = ap (λ o. option_or_zero o) e
        where
          option_or_zero : Option ℕ → ℕ
          option_or_zero None = 0
          option_or_zero (Some k) = k
  place_at xs false place at is = absurd (false≢true (ap is_some (sym is)))

  pub place_is : (xs : List Constraint) (place : ℕ) → Some place ≡ position test xs → (place ≡ position_or_len test xs) × (place < length xs)
  place_is xs place is = place_at xs (nat_lt (position_or_len test xs) (length xs)) place refl is

pub none_withdrawn : (standing : Standing) (number : ℕ) → None ≡ place_of standing.constraints number → GivesOutcome {A = Constraint} standing standing (Err NoSuch) (withdraw_outcome standing number)
none_withdrawn standing number none =
    subst (λ found. GivesOutcome {A = Constraint} standing standing (Err NoSuch) (withdrawal standing (position_or_len (has_number number) standing.constraints) found)) (none_found (has_number number) standing.constraints none) (refl, refl)

withdrawn_at : (standing new : Standing) (number place : ℕ) (result : Result Constraint EditFault) (found : Option Constraint) → find (has_number number) standing.constraints ≡ found → place ≡ position_or_len (has_number number) standing.constraints → place < length standing.constraints
    → ((withdrawn : Constraint) → withdrawn ≡ get_or standing.constraints place withdrawn → GivesOutcome standing new result (Ok (withdrawn, without_place standing place withdrawn)))
    → GivesOutcome standing new result (withdrawal standing place found)
withdrawn_at standing new number place result None is at within gives =
    absurd (false≢true (ap is_some (sym is) ∙ some_there (has_number number) standing.constraints ∙ (let below : position_or_len (has_number number) standing.constraints < length standing.constraints = omega (arith, at, within) in grind (arith, below))))
withdrawn_at standing new number place result (Some withdrawn) is at within gives =
    gives withdrawn (sym (get_or_from_slice_get standing.constraints place withdrawn withdrawn (ap (slice_get standing.constraints) at ∙ sym (found_there (has_number number) standing.constraints) ∙ is)))

pub one_withdrawn : (standing new : Standing) (number place : ℕ) (result : Result Constraint EditFault) → Some place ≡ place_of standing.constraints number
    → ((withdrawn : Constraint) → withdrawn ≡ get_or standing.constraints place withdrawn → GivesOutcome standing new result (Ok (withdrawn, without_place standing place withdrawn)))
    → GivesOutcome standing new result (withdraw_outcome standing number)
one_withdrawn standing new number place result is gives =
    let at : (place ≡ position_or_len (has_number number) standing.constraints) × (place < length standing.constraints) = place_is (has_number number) standing.constraints place is in
    subst (λ k. GivesOutcome standing new result (withdrawal standing k (find (has_number number) standing.constraints))) at.0
    (withdrawn_at standing new number place result (find (has_number number) standing.constraints) refl at.0 at.1 gives)
