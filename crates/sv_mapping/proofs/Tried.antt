-- Trying texts in falling order of rank finds the best match.
use Rattle.std.proofs.Common.{◌≡◌, ℕ, Bool, true, false, List, [], ◌∷◌, ◌++◌, map, refl, ◌∙◌, ap, Option, Some, None, inl, inr, ◌⊎◌}
use Rattle.std.specs.List.{find, list_any, Contains}
use Rattle.std.specs.Option.{is_some}
use Rattle.std.specs.Str.{bytes_eq}
use Rattle.std.proofs.lemmas.Bool.{both_ways, cases_Bool}
use Rattle.std.proofs.lemmas.List.Folds.{Any-from_list_any, list_any-from_Any}
use Rattle.std.proofs.lemmas.Slice.Eq.{bytes_eq-Decides}
use Rattle.sv_mapping.specs.BestMatch.{best_pattern, is_best, outranks}
use Rattle.sv_mapping.specs.Pattern.{matches}
use Rattle.sv_mapping.proofs.BestMatches.{best_pattern-member, outranks-order, unbeaten_by_member}
use Rattle.sv_mapping.proofs.FirstBest.{found_passes, top_exists}
use Rattle.sv_mapping.proofs.Texts.{same_bytes}

-- y is one of the list.
abbrev pub In : {X : Type 0} → X → List X → Type 0
In y [] = ⊥
In y (x ∷ xs) = (y ≡ x) ⊎ In y xs

pub In-left : {X : Type 0} (y : X) (xs ys : List X) → In y xs → In y (xs ++ ys)
In-left y [] ys h = absurd h
In-left y (x ∷ xs) ys (inl e) = inl e
In-left y (x ∷ xs) ys (inr h) = inr (In-left y xs ys h)

pub In-right : {X : Type 0} (y : X) (xs ys : List X) → In y ys → In y (xs ++ ys)
In-right y [] ys h = h
In-right y (x ∷ xs) ys h = inr (In-right y xs ys h)

pub In-cases : {X : Type 0} (y : X) (xs ys : List X) → In y (xs ++ ys) → In y xs ⊎ In y ys
In-cases y [] ys h = inr h
In-cases y (x ∷ xs) ys (inl e) = inl (inl e)
In-cases y (x ∷ xs) ys (inr h) = elim (In-cases y xs ys h) [ inl k ↦ inl (inr k) | inr k ↦ inr k ]

pub In-map : {X Y : Type 0} (f : X → Y) (y : X) (xs : List X) → In y xs → In (f y) (map f xs)
In-map f y [] h = absurd h
In-map f y (x ∷ xs) (inl e) = inl (ap f e)
In-map f y (x ∷ xs) (inr h) = inr (In-map f y xs h)

pub In-map_from : {X Y : Type 0} (f : X → Y) (z : Y) (xs : List X) → In z (map f xs) → (y : X) × In y xs × (z ≡ f y)
In-map_from f z [] h = absurd h
In-map_from f z (x ∷ xs) (inl e) = (x, inl refl, e)
In-map_from f z (x ∷ xs) (inr h) = let k = In-map_from f z xs h in (k.0, inr k.1, k.2)

-- R holds of each element and each later one.
abbrev pub Falls : {X : Type 0} → (X → X → Type 0) → List X → Type 0
Falls R [] = Unit {0}
Falls {X} R (x ∷ xs) = ((y : X) → In y xs → R x y) × Falls R xs

pub Falls-append : {X : Type 0} (R : X → X → Type 0) (xs ys : List X) → Falls R xs → Falls R ys → ((x y : X) → In x xs → In y ys → R x y) → Falls R (xs ++ ys)
Falls-append R [] ys f g across = g
Falls-append R (x ∷ xs) ys f g across =
    (λ y h. elim (In-cases y xs ys h) [ inl k ↦ f.0 y k | inr k ↦ across x y (inl refl) k ], Falls-append R xs ys f.1 g (λ u v h k. across u v (inr h) k))

pub Falls-map : {X Y : Type 0} (R : X → X → Type 0) (S : Y → Y → Type 0) (f : X → Y) (xs : List X) → ((x y : X) → In x xs → In y xs → R x y → S (f x) (f y)) → Falls R xs → Falls S (map f xs)
Falls-map R S f [] keeps h = tt
Falls-map R S f (x ∷ xs) keeps h =
    (λ z k. let from = In-map_from f z xs k in rw from.2 (keeps x from.0 (inl refl) (inr from.1) (h.0 from.0 from.1)), Falls-map R S f xs (λ u v a b r. keeps u v (inr a) (inr b) r) h.1)

some_same : {X : Type 0} {x y : X} → Some x ≡ Some y → x ≡ y
some_same e = cc

-- An element that was found comes before all others that pass.
pub found_first : {X : Type 0} (R : X → X → Type 0) (t : X → Bool) (xs : List X) (x y : X) → Falls R xs → find t xs ≡ Some x → In y xs → t y ≡ true → (y ≡ x) ⊎ R x y
found_first R t [] x y f h k passes = absurd k
found_first R t (z ∷ zs) x y f h (inl e) passes = let here : t z ≡ true = rw e at passes in let same : z ≡ x = some_same (rw here at h) in inl (e ∙ same)
found_first R t (z ∷ zs) x y f h (inr m) passes =
    elim (cases_Bool (t z)) [
      | inl e ↦ let same : z ≡ x = some_same (rw e at h) in inr (rw (← same) (f.0 y m))
      | inr e ↦ found_first R t zs x y f.1 (rw e at h) m passes
    ]

pub found_is_in : {X : Type 0} (t : X → Bool) (xs : List X) (x : X) → find t xs ≡ Some x → In x xs
found_is_in t [] x h = cc
found_is_in t (y ∷ ys) x h =
    elim (cases_Bool (t y)) [ inl e ↦ let same : x ≡ y = cc in inl same | inr e ↦ inr (found_is_in t ys x (rw e at h)) ]

some_lost : {X : Type 0} {x : X} → Some x ≡ None → ⊥
some_lost e = cc

none_is_in : {X : Type 0} (t : X → Bool) (xs : List X) (y : X) → find t xs ≡ None → In y xs → t y ≡ false
none_is_in t [] y h k = absurd k
none_is_in t (x ∷ xs) y h (inl same) = elim (cases_Bool (t x)) [ inl e ↦ absurd (some_lost (rw e at h)) | inr e ↦ rw same e ]
none_is_in t (x ∷ xs) y h (inr m) = elim (cases_Bool (t x)) [ inl e ↦ absurd (some_lost (rw e at h)) | inr e ↦ none_is_in t xs y (rw e at h) m ]

abbrev among : List (List ℕ) → List ℕ → Bool
among patterns text = list_any (λ pattern. bytes_eq pattern text) patterns

among-Contains : (patterns : List (List ℕ)) (text : List ℕ) → among patterns text ≡ true → Contains patterns text
among-Contains patterns text h =
    let some = Any-from_list_any (λ pattern. bytes_eq pattern text) patterns h in
    let same : some.1 ≡ text = same_bytes some.1 text some.4 in
    (some.0, some.2, rw same at some.3)

Contains-among : (patterns : List (List ℕ)) (text : List ℕ) → Contains patterns text → among patterns text ≡ true
Contains-among patterns text h = list_any-from_Any (λ pattern. bytes_eq pattern text) patterns (h.0, text, h.1, h.2, (bytes_eq-Decides text text).1 refl)

-- Texts that match a path, with all that match it and satisfy P, in falling order of rank.
pub record Tries (P : List ℕ → Type 0) (path : List ℕ) (texts : List (List ℕ)) : Type 0 where
  pub sound : (text : List ℕ) → In text texts → matches text path ≡ true
  pub complete : (text : List ℕ) → P text → matches text path ≡ true → In text texts
  pub falls : Falls (λ a b. outranks a b ≡ true) texts

-- All patterns that match a path, in falling order of rank.
abbrev pub TriesInOrder : List ℕ → List (List ℕ) → Type 0
TriesInOrder path texts = Tries (λ _. Unit {0}) path texts

pub first_of_tried : (P : List ℕ → Type 0) (path : List ℕ) (texts : List (List ℕ)) → Tries P path texts → (patterns : List (List ℕ)) → ((text : List ℕ) → In text patterns → P text) → best_pattern patterns path ≡ find (among patterns) texts
first_of_tried P path texts tries patterns meets = same (best_pattern patterns path) refl (find (among patterns) texts) refl
  where
    meant : (b : List ℕ) → best_pattern patterns path ≡ Some b → P b
    meant b e = meets b (found_is_in (is_best patterns path) patterns b e)

    same : (held : Option (List ℕ)) → best_pattern patterns path ≡ held → (tried : Option (List ℕ)) → find (among patterns) texts ≡ tried → held ≡ tried
    same None e None f = refl
    same (Some b) e None f =
        let member = best_pattern-member patterns path b e in
        absurd (both_ways _ (none_is_in (among patterns) texts b f (tries.complete b (meant b e) member.1)) (Contains-among patterns b member.0))
    same None e (Some t) f =
        let at = among-Contains patterns t (found_passes (among patterns) texts t f) in
        let some = list_any-from_Any (λ p. matches p path) patterns (at.0, t, at.1, at.2, tries.sound t (found_is_in (among patterns) texts t f)) in
        let none : is_some (best_pattern patterns path) ≡ false = rw e refl in
        absurd (both_ways _ none (top_exists (λ p. matches p path) outranks outranks-order patterns ∙ some))
    same (Some b) e (Some t) f =
        let member = best_pattern-member patterns path b e in
        let at = among-Contains patterns t (found_passes (among patterns) texts t f) in
        let under = unbeaten_by_member patterns path b t (found_passes (is_best patterns path) patterns b e) at (tries.sound t (found_is_in (among patterns) texts t f)) in
        elim (found_first (λ a b. outranks a b ≡ true) (among patterns) texts t b tries.falls f (tries.complete b (meant b e) member.1) (Contains-among patterns b member.0)) [
          | inl one ↦ ap Some one
          | inr over ↦ absurd (both_ways _ under over)
        ]

pub first_tried : (path : List ℕ) (texts : List (List ℕ)) → TriesInOrder path texts → (patterns : List (List ℕ)) → best_pattern patterns path ≡ find (among patterns) texts
first_tried path texts tries patterns = first_of_tried (λ _. Unit {0}) path texts tries patterns (λ _ _. tt)
