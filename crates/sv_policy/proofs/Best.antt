-- The best match depends only on the set of patterns, not on their order.
use Rattle.std.proofs.lemmas.Bool.{false≢true}
use Rattle.std.proofs.Common.{◌≡◌, ℕ, Bool, true, false, not, ◌||◌, ◌&&◌, List, [], ◌∷◌, refl, ap, sym, ◌∙◌, Option, Some, None, cond, is_some, arith}
use Rattle.std.specs.Prelude.{Contains, find}
use Rattle.std.specs.Cmp.{both_ways}
use Rattle.std.specs.List.{list_any}
use Rattle.std.specs.Str.{bytes_eq}
use Rattle.std.proofs.lemmas.List.Elements.{Contains-append_right}
use Rattle.std.proofs.lemmas.Slice.Eq.{bytes_eq-Decides}
use Rattle.sv_mapping.specs.BestMatch.{BestIsUnique, is_best, outranks}
use Rattle.sv_mapping.specs.Pattern.{matches}
use Rattle.sv_constraints.specs.Covering.{lists}
use Rattle.sv_policy.specs.Patterns.{BestIsOfTexts}

pub or_right : (a b : Bool) → b ≡ true → (a || b) ≡ true
or_right true b h = refl
or_right false b h = h

module _ (test : List ℕ → Bool) where
  any_at : (y x : List ℕ) (xs : List (List ℕ)) (same : Bool) → bytes_eq y x ≡ same → (same || lists xs x) ≡ true → test x ≡ true → (lists xs x ≡ true → list_any test xs ≡ true) → list_any test (y ∷ xs) ≡ true
  any_at y x xs true at there passes below = ap (λ b. b || list_any test xs) (ap test ((bytes_eq-Decides y x).0 at) ∙ passes)
  any_at y x xs false at there passes below = or_right (test y) (list_any test xs) (below there)

  -- One of the listed texts passes.
  pub any_in : (xs : List (List ℕ)) (x : List ℕ) → lists xs x ≡ true → test x ≡ true → list_any test xs ≡ true
  any_in [] x there passes = absurd (false≢true there)
  any_in (y ∷ xs) x there passes = any_at y x xs (bytes_eq y x) refl there passes (λ below. any_in xs x below passes)

  any_within_at : (y : List ℕ) (xs others : List (List ℕ)) (passes : Bool) → test y ≡ passes → ((text : List ℕ) → lists (y ∷ xs) text ≡ true → lists others text ≡ true) → (passes || list_any test xs) ≡ true → (list_any test xs ≡ true → list_any test others ≡ true) → list_any test others ≡ true
  any_within_at y xs others true is within some below = any_in others y (within y (ap (λ b. b || lists xs y) ((bytes_eq-Decides y y).1 refl))) is
  any_within_at y xs others false is within some below = below some

  any_within : (xs others : List (List ℕ)) → ((text : List ℕ) → lists xs text ≡ true → lists others text ≡ true) → list_any test xs ≡ true → list_any test others ≡ true
  any_within [] others within some = absurd (false≢true some)
  any_within (y ∷ xs) others within some =
      any_within_at y xs others (test y) refl within some (any_within xs others (λ text there. within text (or_right (bytes_eq y text) (lists xs text) there)))

  -- Lists of the same texts have a text that passes or both have none.
  pub any_listed : (xs others : List (List ℕ)) → ((text : List ℕ) → lists xs text ≡ lists others text) → list_any test xs ≡ list_any test others
  any_listed xs others same = both_ways (list_any test xs) (list_any test others) (any_within xs others (λ text there. sym (same text) ∙ there)) (any_within others xs (λ text there. same text ∙ there))

  some_at : (passes : Bool) (x : List ℕ) (rest : Option (List ℕ)) (some : Bool) → is_some rest ≡ some → is_some (cond passes (Some x) rest) ≡ (passes || some)
  some_at true x rest some is = refl
  some_at false x rest some is = is

  some_found : (xs : List (List ℕ)) → is_some (find test xs) ≡ list_any test xs
  some_found [] = refl
  some_found (x ∷ xs) = some_at (test x) x (find test xs) (list_any test xs) (some_found xs)

  found_at : (y x : List ℕ) (xs : List (List ℕ)) (passes : Bool) → test y ≡ passes → cond passes (Some y) (find test xs) ≡ Some x → (find test xs ≡ Some x → (test x ≡ true) × (lists xs x ≡ true)) → (test x ≡ true) × (lists (y ∷ xs) x ≡ true)
  found_at y x xs true is found below =
      let same : y ≡ x = ap (λ found_one. unwrap found_one) found in
      (ap test (sym same) ∙ is, ap (λ b. b || lists xs x) ((bytes_eq-Decides y x).1 same))
    where
      unwrap : Option (List ℕ) → List ℕ
      unwrap None = x
      unwrap (Some z) = z
  found_at y x xs false is found below = ((below found).0, or_right (bytes_eq y x) (lists xs x) (below found).1)

  -- The first text that passes passes, and is one of the texts.
  pub found_in : (xs : List (List ℕ)) (x : List ℕ) → find test xs ≡ Some x → (test x ≡ true) × (lists xs x ≡ true)
  found_in [] x found = absurd (false≢true (ap is_some found))
  found_in (y ∷ xs) x found = found_at y x xs (test y) refl found (found_in xs x)

  -- If only one text can pass, the order does not matter.
  find_at : (xs others : List (List ℕ)) (a b : Option (List ℕ)) → find test xs ≡ a → find test others ≡ b → ((text : List ℕ) → lists xs text ≡ lists others text) → ((x y : List ℕ) → lists xs x ≡ true → lists xs y ≡ true → test x ≡ true → test y ≡ true → x ≡ y) → a ≡ b
  find_at xs others None None at there same one = refl
  find_at xs others None (Some y) at there same one = absurd (false≢true (sym (ap is_some at) ∙ some_found xs ∙ any_listed xs others same ∙ sym (some_found others) ∙ ap is_some there))
  find_at xs others (Some x) None at there same one = absurd (false≢true (sym (ap is_some there) ∙ some_found others ∙ sym (any_listed xs others same) ∙ sym (some_found xs) ∙ ap is_some at))
  find_at xs others (Some x) (Some y) at there same one =
      ap Some (one x y (found_in xs x at).1 (same y ∙ (found_in others y there).1) (found_in xs x at).0 (found_in others y there).0)

find_same : {X : Type 0} (p q : X → Bool) → ((x : X) → p x ≡ q x) → (xs : List X) → find p xs ≡ find q xs
find_same p q same [] = refl
find_same p q same (x ∷ xs) = ap (λ b. cond b (Some x) (find p xs)) (same x) ∙ ap (λ rest. cond (q x) (Some x) rest) (find_same p q same xs)

module _ (x : List ℕ) where
  contains_at : (y : List ℕ) (xs : List (List ℕ)) (same : Bool) → bytes_eq y x ≡ same → (same || lists xs x) ≡ true → (lists xs x ≡ true → Contains xs x) → Contains (y ∷ xs) x
  contains_at y xs true at there below = (0, omega arith, (bytes_eq-Decides y x).0 at)
  contains_at y xs false at there below = Contains-append_right (y ∷ []) xs x (below there)

  listed_contains : (xs : List (List ℕ)) → lists xs x ≡ true → Contains xs x
  listed_contains [] there = absurd (false≢true there)
  listed_contains (y ∷ xs) there = contains_at y xs (bytes_eq y x) refl there (listed_contains xs)

-- Patterns with the same texts have the same best match, since at most one text matches best.
pub best_same : BestIsUnique → BestIsOfTexts
best_same unique patterns others path same =
    find_at (is_best patterns path) patterns others (find (is_best patterns path) patterns) (find (is_best patterns path) others) refl refl same
    (λ x y x_in y_in. unique patterns path x y (listed_contains x patterns x_in) (listed_contains y patterns y_in))
    ∙ find_same (is_best patterns path) (is_best others path) (λ x. ap (λ b. matches x path && not b) (any_listed (λ other. matches other path && outranks other x) patterns others same)) others
