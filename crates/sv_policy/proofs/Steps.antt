-- Loop steps over tests, filters and joined lists.
use Rattle.std.proofs.Common.{◌≡◌, ℕ, ◌+◌, ◌<◌, ◌≤◌, Bool, true, false, ◌||◌, ◌&&◌, List, [], ◌∷◌, ◌++◌, length, take, get_or, map, refl, ap, sym, ◌∙◌, append-nil, cond}
use Rattle.std.specs.Prelude.{filter}
use Rattle.std.specs.List.{list_any, flat_map}
use Rattle.std.specs.Str.{bytes_eq}
use Rattle.std.proofs.Math.Bool.{and_comm}
use Rattle.std.proofs.lemmas.List.{map_more, take_all}
use Rattle.std.proofs.lemmas.List.Elements.{filter-append}
use Rattle.std.proofs.lemmas.List.Folds.{list_any-append, list_any_more}
use Rattle.std.proofs.lemmas.Map.Views.{any-filter_same}
use Rattle.std.proofs.lemmas.Slice.Eq.{bytes_eq-Decides}
use Rattle.sv_constraints.specs.Covering.{lists}

-- Whether one of the first items or the next one passes.
pub any_more : {X : Type 0} (test : X → Bool) (xs : List X) (i : ℕ) (x : X) → i < length xs → x ≡ get_or xs i x → list_any test (take (i + 1) xs) ≡ (list_any test (take i xs) || test x)
any_more test xs i x within at_i = list_any_more test xs i x within ∙ ap (λ y. list_any test (take i xs) || test y) (sym at_i)

-- The referenced items, one at a time.
pub seen_more : {A X : Type 0} (now : A → X) (xs : List A) (i : ℕ) (x : A) → i < length xs → x ≡ get_or xs i x → map now (take (i + 1) xs) ≡ map now (take i xs) ++ now x ∷ []
seen_more now xs i x within at_i = map_more now xs i x within ∙ ap (λ y. map now (take i xs) ++ now y ∷ []) (sym at_i)

-- The items after a loop has reached the end of the list.
pub gone_over : {X : Type 0} (xs : List X) (i : ℕ) → length xs ≤ i → take i xs ≡ xs
gone_over xs i ended = take_all i xs ended

-- A filter after one more item, which passes or does not.
pub filter_pass : {X : Type 0} (test : X → Bool) (xs : List X) (x : X) → test x ≡ true → filter test (xs ++ x ∷ []) ≡ filter test xs ++ x ∷ []
filter_pass test xs x passes = filter-append test xs (x ∷ []) ∙ ap (λ b. filter test xs ++ cond b (x ∷ []) []) passes

pub filter_stop : {X : Type 0} (test : X → Bool) (xs : List X) (x : X) → test x ≡ false → filter test (xs ++ x ∷ []) ≡ filter test xs
filter_stop test xs x stops = filter-append test xs (x ∷ []) ∙ ap (λ b. filter test xs ++ cond b (x ∷ []) []) stops ∙ append-nil (filter test xs)

-- Filters with tests that agree on every item keep the same items.
pub filter_same : {X : Type 0} (p q : X → Bool) → ((x : X) → p x ≡ q x) → (xs : List X) → filter p xs ≡ filter q xs
filter_same p q same [] = refl
filter_same p q same (x ∷ xs) = ap (λ b. cond b (x ∷ filter p xs) (filter p xs)) (same x) ∙ ap (λ rest. cond (q x) (x ∷ rest) rest) (filter_same p q same xs)

-- Tests that agree on every item give the same result.
pub any_same : {X : Type 0} (p q : X → Bool) → ((x : X) → p x ≡ q x) → (xs : List X) → list_any p xs ≡ list_any q xs
any_same p q same [] = refl
any_same p q same (x ∷ xs) = ap (λ b. b || list_any p xs) (same x) ∙ ap (λ rest. q x || rest) (any_same p q same xs)

-- The joined list has an item that passes the test exactly if one of the parts has.
pub any_of_joined : {X A : Type 0} (test : A → Bool) (f : X → List A) (xs : List X) → list_any test (flat_map f xs) ≡ list_any (λ x. list_any test (f x)) xs
any_of_joined test f [] = refl
any_of_joined test f (x ∷ xs) = list_any-append test (f x) (flat_map f xs) ∙ ap (λ found. list_any test (f x) || found) (any_of_joined test f xs)

-- A text is in a filtered list exactly if it is in the list and passes the test.
pub passing_lists : (test : List ℕ → Bool) (texts : List (List ℕ)) (other : List ℕ) → lists (filter test texts) other ≡ (lists texts other && test other)
passing_lists test texts other =
    any-filter_same (λ listed. bytes_eq listed other) test (test other) (λ listed same. ap test ((bytes_eq-Decides listed other).0 same)) texts
    ∙ and_comm (test other) (lists texts other)
