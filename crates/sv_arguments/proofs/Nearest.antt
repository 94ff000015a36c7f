-- A near name is the nearest.
use Rattle.std.proofs.Common.{◌≡◌, ◌≢◌, ℕ, ◌<◌, ◌≤◌, zero, suc, ◌⊎◌, Bool, true, false, cond, List, [], ◌∷◌, Option, Some, None, inl, inr, length, nat_eq, arith, refl, subst}
use Rattle.std.proofs.lemmas.Bool.Decides.{nat_tests}
use Rattle.std.specs.List.{All, Contains, find, slice_index_or}
use Rattle.std.specs.Option.{option_or}
use Rattle.sv_arguments.specs.Laws.{NearIsNearest, OthersAreFar}
use Rattle.sv_arguments.specs.Near.{distance, name_at}

missed_first : {X : Type 0} (test : Bool) (x : X) (rest : Option X) → cond test (Some x) rest ≡ None → (test ≡ false) × (rest ≡ None)
missed_first true x rest none = cc
missed_first false x rest none = (refl, none)

-- if no item is found, each fails
missed : {X : Type 0} (passes : X → Bool) (xs : List X) → find passes xs ≡ None → All (λ x. passes x ≡ false) xs
missed passes [] none k d within = absurd (omega arith)
missed passes (x ∷ xs) none zero d within = (missed_first (passes x) x (find passes xs) none).0
missed passes (x ∷ xs) none (suc k) d within = missed passes xs (missed_first (passes x) x (find passes xs) none).1 k d (omega arith)

met_first : {X : Type 0} (test : Bool) (x y : X) (rest : Option X) → cond test (Some x) rest ≡ Some y → ((test ≡ true) × (x ≡ y)) ⊎ (rest ≡ Some y)
met_first true x y rest some = let same : x ≡ y = cc in inl (refl, same)
met_first false x y rest some = inr some

-- the item that is found is there and passes
met : {X : Type 0} (passes : X → Bool) (xs : List X) (y : X) → find passes xs ≡ Some y → Contains xs y × (passes y ≡ true)
met passes [] y some = cc
met passes (x ∷ xs) y some = here passes x xs y (met_first (passes x) x y (find passes xs) some) (λ rest. met passes xs y rest)
  where
    here : {X : Type 0} (passes : X → Bool) (x : X) (xs : List X) (y : X) → ((passes x ≡ true) × (x ≡ y)) ⊎ (find passes xs ≡ Some y)
        → (find passes xs ≡ Some y → Contains xs y × (passes y ≡ true)) → Contains (x ∷ xs) y × (passes y ≡ true)
    here {X} passes x xs y (inl (holds, same)) more =
        let Passes : X → Type 0 = λ item. passes item ≡ true in ((0, omega arith, same), subst Passes same holds)
    here passes x xs y (inr some) more =
        let rest = more some in ((suc rest.0.0, omega (arith, rest.0.1), rest.0.2), rest.1)

or_some : {X : Type 0} (one rest : Option X) (x : X) → option_or one rest ≡ Some x → (one ≡ Some x) ⊎ ((one ≡ None) × (rest ≡ Some x))
or_some None rest x some = inr (refl, some)
or_some (Some y) rest x some = inl some

or_none : {X : Type 0} (one rest : Option X) → option_or one rest ≡ None → (one ≡ None) × (rest ≡ None)
or_none None rest none = (refl, none)
or_none (Some y) rest none = cc

module _ (names : List (List ℕ)) (word : List ℕ) where
  at : (away : ℕ) (name : List ℕ) → name_at away names word ≡ Some name → Contains names name × (distance name word ≡ away)
  at away name some =
      let is = met (λ other. nat_eq (distance other word) away) names name some in (is.0, grind (arith, nat_tests, is.1))

  none_at : (away : ℕ) → name_at away names word ≡ None → (k : ℕ) (d : List ℕ) → k < length names → distance (slice_index_or names k d) word ≢ away
  none_at away none k d within =
      let fails = missed (λ other. nat_eq (distance other word) away) names none k d within in λ same. grind (arith, nat_tests, fails, same)

  Nearest : List ℕ → Type 0
  Nearest name = Contains names name × (distance name word ≤ 2) × All (λ other. distance name word ≤ distance other word) names

  second : (name : List ℕ) → name_at 0 names word ≡ None → (name_at 1 names word ≡ Some name) ⊎ ((name_at 1 names word ≡ None) × (name_at 2 names word ≡ Some name)) → Nearest name
  unfolding Nearest
  second name none (inl some) =
      let is = at 1 name some in (is.0, omega (arith, is.1), λ k d within. let far = none_at 0 none k d within in omega (arith, is.1, far))
  second name none (inr (no_one, some)) =
      let is = at 2 name some in
      (is.0, omega (arith, is.1), λ k d within. let far = none_at 0 none k d within in let next = none_at 1 no_one k d within in omega (arith, is.1, far, next))

  first : (name : List ℕ)
      → (name_at 0 names word ≡ Some name) ⊎ ((name_at 0 names word ≡ None) × (option_or (name_at 1 names word) (name_at 2 names word) ≡ Some name)) → Nearest name
  unfolding Nearest
  first name (inl some) = let is = at 0 name some in (is.0, omega (arith, is.1), λ k d within. omega (arith, is.1))
  first name (inr (none, some)) = second name none (or_some (name_at 1 names word) (name_at 2 names word) name some)

pub near_is_nearest : NearIsNearest
unfolding Nearest
near_is_nearest names [] name some = cc
near_is_nearest names (c ∷ word) name some =
    first names (c ∷ word) name (or_some (name_at 0 names (c ∷ word)) (option_or (name_at 1 names (c ∷ word)) (name_at 2 names (c ∷ word))) name some)

pub others_are_far : OthersAreFar
others_are_far names [] none some = absurd (some refl)
others_are_far names (c ∷ word) none some = λ k d within.
    let zeros = or_none (name_at 0 names (c ∷ word)) (option_or (name_at 1 names (c ∷ word)) (name_at 2 names (c ∷ word))) none in
    let ones = or_none (name_at 1 names (c ∷ word)) (name_at 2 names (c ∷ word)) zeros.1 in
    let far = none_at names (c ∷ word) 0 zeros.0 k d within in
    let next = none_at names (c ∷ word) 1 ones.0 k d within in
    let last = none_at names (c ∷ word) 2 ones.1 k d within in
    omega (arith, far, next, last)
