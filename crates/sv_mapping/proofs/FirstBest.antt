-- The first element of a list that passes a test and that no passing element beats, while the list grows at its end.
use Rattle.std.proofs.Common.{◌≡◌, ℕ, ◌+◌, ◌<◌, ltb, Bool, true, false, cond, not, ◌&&◌, ◌||◌, inl, inr, List, [], ◌∷◌, ◌++◌, length, refl, sym, ◌∙◌, ap, add-zero, zero-add, append-nil, append_assoc, arith, Option, Some, None}
use Rattle.std.specs.Cmp.{IsStrictWeakOrder}
use Rattle.std.specs.List.{Contains, HoldsAt, find, list_any, position, position_from, position_or_len, slice_get}
use Rattle.std.specs.Option.{IfSome, is_some, option_and_then, option_or, option_map_or}
use Rattle.std.proofs.lemmas.Bool.{and_cases, and_parts, and_right, both_ways, cases_Bool, false_from_ne_true, ltb-false, ltb-true, not-true, or_from, or_parts}
use Rattle.std.proofs.lemmas.Iterator.Adapters.{position_from-zero}
use Rattle.std.proofs.lemmas.List.Elements.{Contains-append_right}
use Rattle.std.proofs.lemmas.List.Folds.{find_at, list_any-append}
use Rattle.std.proofs.lemmas.List.Quantifiers.{position-Some}
use Rattle.std.proofs.lemmas.Option.{slice_get_past}

-- ---- tests on lists
list_any_weaker : {X : Type 0} (t u : X → Bool) (xs : List X) → ((x : X) → u x ≡ false → t x ≡ false) → list_any u xs ≡ false → list_any t xs ≡ false
list_any_weaker t u [] weaker h = refl
list_any_weaker t u (x ∷ xs) weaker h =
    let parts = or_parts (u x) (list_any u xs) h in
    or_from (t x) (list_any t xs) (weaker x parts.0) (list_any_weaker t u xs weaker parts.1)

-- An element that was found passes, is in the list, and fails each test that nothing in the list passes.
pub found_passes : {X : Type 0} (t : X → Bool) (xs : List X) (x : X) → find t xs ≡ Some x → t x ≡ true
found_passes t [] x h = cc
found_passes t (y ∷ ys) x h = elim (cases_Bool (t y)) [ inl e ↦ cc | inr e ↦ found_passes t ys x (rw e at h) ]

pub found_in : {X : Type 0} (t : X → Bool) (xs : List X) (x : X) → find t xs ≡ Some x → Contains xs x
found_in t [] x h = cc
found_in t (y ∷ ys) x h =
    elim (cases_Bool (t y)) [ inl e ↦ let same : y ≡ x = cc in (0, omega arith, same) | inr e ↦ Contains-append_right (y ∷ []) ys x (found_in t ys x (rw e at h)) ]

found_fails : {X : Type 0} (t u : X → Bool) (xs : List X) (x : X) → find t xs ≡ Some x → list_any u xs ≡ false → u x ≡ false
found_fails t u [] x h none = cc
found_fails t u (y ∷ ys) x h none =
    let parts = or_parts (u y) (list_any u ys) none in
    elim (cases_Bool (t y)) [ inl e ↦ cc | inr e ↦ found_fails t u ys x (rw e at h) parts.1 ]

-- The element at the first place that passes is the first element that passes.
pub get-position : {X : Type 0} (t : X → Bool) (xs : List X) → option_and_then (λ i. slice_get xs i) (position t xs) ≡ find t xs
get-position t xs =
    elim (cases_Bool (ltb (position_or_len t xs) (length xs))) [ inl e ↦ rw e (sym (find_at t xs)) | inr e ↦ rw e (sym (find_at t xs ∙ slice_get_past xs _ (ltb-false _ _ e))) ]

pub position_within : {X : Type 0} (t : X → Bool) (xs : List X) → IfSome (position t xs) (λ i. i < length xs)
position_within t xs = elim (cases_Bool (ltb (position_or_len t xs) (length xs))) [ inl e ↦ rw e (ltb-true _ _ e) | inr e ↦ rw e tt ]

pub position_holds : {X : Type 0} (t : X → Bool) (P : X → Type 0) (xs : List X) → ((x : X) → t x ≡ true → P x) → IfSome (position t xs) (HoldsAt P xs)
position_holds t P xs holds = go (position t xs) refl
  where
    go : (place : Option ℕ) → position t xs ≡ place → IfSome place (HoldsAt P xs)
    go None e = tt
    go (Some i) e = λ d. holds _ (position-Some t xs i d e).1

-- ---- a function g of the first element that passes and of its place
abbrev first : {X Y : Type 0} → (ℕ → X → Y) → (X → Bool) → ℕ → List X → Option Y
first g t i [] = None
first g t i (x ∷ xs) = cond (t x) (Some (g i x)) (first g t (i + 1) xs)

first-find : {X : Type 0} (t : X → Bool) (i : ℕ) (xs : List X) → first (λ _ x. x) t i xs ≡ find t xs
first-find t i [] = refl
first-find t i (x ∷ xs) = ap (cond (t x) (Some x)) (first-find t (i + 1) xs)

first-position_from : {X : Type 0} (t : X → Bool) (i : ℕ) (xs : List X) → first (λ i _. i) t i xs ≡ position_from t i xs
first-position_from t i [] = refl
first-position_from t i (x ∷ xs) = ap (cond (t x) (Some i)) (first-position_from t (i + 1) xs)

module _ {X Y : Type 0} (g : ℕ → X → Y) (t : X → Bool) where
  first-push : (i : ℕ) (xs : List X) (x : X) → first g t i (xs ++ x ∷ []) ≡ option_or (first g t i xs) (cond (t x) (Some (g (i + length xs) x)) None)
  first-push i [] x = rw add-zero refl
  first-push i (y ∷ ys) x =
      elim (cases_Bool (t y)) [ inl e ↦ rw e refl | inr e ↦ rw (e, first-push (i + 1) ys x) (ap (λ n. option_or (first g t (i + 1) ys) (cond (t x) (Some (g n x)) None)) (omega arith)) ]

  first_none : (i : ℕ) (xs : List X) → list_any t xs ≡ false → first g t i xs ≡ None
  first_none i [] h = refl
  first_none i (y ∷ ys) h = let parts = or_parts (t y) (list_any t ys) h in rw parts.0 (first_none (i + 1) ys parts.1)

  first_stays : (i : ℕ) (xs : List X) (x : X) (other : Option Y) → find t xs ≡ Some x → option_or (first g t i xs) other ≡ first g t i xs
  first_stays i [] x other h = cc
  first_stays i (y ∷ ys) x other h = elim (cases_Bool (t y)) [ inl e ↦ rw e refl | inr e ↦ rw e (first_stays (i + 1) ys x other (rw e at h)) ]

module _ {X : Type 0} (P : X → Bool) (beats : X → X → Bool) where
  -- x passes, and no element of the list that passes beats it.
  abbrev pub top : List X → X → Bool
  top xs x = P x && not (list_any (λ y. P y && beats y x) xs)

  -- x passes, and beats the element found before, if there is one.
  abbrev pub takes : Option X → X → Bool
  takes held x = P x && option_map_or (λ y. beats x y) held true

  top-push : (xs : List X) (x y : X) → top (xs ++ x ∷ []) y ≡ (not (P x && beats x y) && top xs y)
  top-push xs x y = rw (list_any-append (λ z. P z && beats z y) xs (x ∷ [])) (regroup (P y) (list_any (λ z. P z && beats z y) xs) (P x && beats x y))
    where
      regroup : (a b c : Bool) → (a && not (b || (c || false))) ≡ (not c && (a && not b))
      regroup true true true = refl
      regroup true true false = refl
      regroup true false true = refl
      regroup true false false = refl
      regroup false b true = refl
      regroup false b false = refl

  failing_is_no_top : (xs : List X) (y : X) → P y ≡ false → top xs y ≡ false
  failing_is_no_top xs y fails = rw fails refl

  -- An element that fails changes no top.
  same_where_failing : (xs : List X) (x : X) → P x ≡ false → top (xs ++ x ∷ []) ≡ top xs
  same_where_failing xs x fails = λ i y. unchanged y i
    where
      unchanged : (y : X) → top (xs ++ x ∷ []) y ≡ top xs y
      unchanged y = rw (top-push xs x y, fails) refl

  module _ (order : IsStrictWeakOrder beats) where
    pub unbeaten_by_itself : (x : X) → beats x x ≡ false
    unbeaten_by_itself x = elim (cases_Bool (beats x x)) [ inl e ↦ order.one_way x x e | inr e ↦ e ]

    -- An element that beats h beats each element that does not beat h.
    beats_rest : (x y h : X) → beats x h ≡ true → beats y h ≡ false → beats x y ≡ true
    beats_rest x y h over under = elim (cases_Bool (beats x y)) [ inl e ↦ e | inr e ↦ absurd (both_ways _ (order.chain x y h e under) over) ]

    -- A new element that passes and that nothing beats is a top.
    last_is_top : (xs : List X) (x : X) → P x ≡ true → list_any (λ y. P y && beats y x) xs ≡ false → top (xs ++ x ∷ []) x ≡ true
    last_is_top xs x passes none = rw (top-push xs x x, passes, unbeaten_by_itself x, none) refl

    -- One that does not beat a top changes no top.
    same_where_under : (xs : List X) (x h : X) → find (top xs) xs ≡ Some h → P x ≡ true → beats x h ≡ false → top (xs ++ x ∷ []) ≡ top xs
    same_where_under xs x h e passes under = λ i y. unchanged y i
      where
        beats_no_top : (y : X) → top xs y ≡ true → beats x y ≡ false
        beats_no_top y tops =
            let held = (and_parts (P h) (not (list_any (λ z. P z && beats z h) xs)) (found_passes (top xs) xs h e)).0 in
            let unbeaten = found_fails (top xs) (λ z. P z && beats z y) xs h e (not-true _ (and_parts (P y) (not (list_any (λ z. P z && beats z y) xs)) tops).1) in
            order.chain x h y under (rw held at unbeaten)

        unchanged : (y : X) → top (xs ++ x ∷ []) y ≡ top xs y
        unchanged y =
            elim (cases_Bool (beats x y)) [
              | inr low ↦ rw (top-push xs x y, passes, low) refl
              | inl high ↦
                  let lost : top xs y ≡ false = false_from_ne_true _ (λ tops. both_ways _ (beats_no_top y tops) high) in
                  rw (top-push xs x y, passes, high, lost) refl
            ]

    module _ {Y : Type 0} (g : ℕ → X → Y) (xs : List X) (x : X) where
      abbrev grown : List X
      grown = xs ++ x ∷ []

      -- x takes over if no earlier element is a top of the longer list.
      taken : P x ≡ true → list_any (λ y. P y && beats y x) xs ≡ false → list_any (top grown) xs ≡ false → first g (top grown) 0 grown ≡ Some (g (length xs) x)
      taken passes none lost = first-push g (top grown) 0 xs x ∙ rw (first_none g (top grown) 0 xs lost, last_is_top xs x passes none, zero-add) refl

      kept : (h : X) → find (top xs) xs ≡ Some h → top grown ≡ top xs → first g (top grown) 0 grown ≡ first g (top xs) 0 xs
      kept h e same = rw same (first-push g (top xs) 0 xs x ∙ first_stays g (top xs) 0 xs h _ e)

      grows : (held : Option X) → find (top xs) xs ≡ held → (held ≡ None → list_any P xs ≡ false) → first g (top grown) 0 grown ≡ cond (takes held x) (Some (g (length xs) x)) (first g (top xs) 0 xs)
      grows None e none_passes =
          elim (cases_Bool (P x)) [
            | inl passes ↦ rw passes (taken passes
                (list_any_weaker (λ y. P y && beats y x) P xs (λ y fails. rw fails refl) (none_passes refl))
                (list_any_weaker (top grown) P xs (failing_is_no_top grown) (none_passes refl)))
            | inr fails ↦
                let lost = first_none g (top xs) 0 xs (list_any_weaker (top xs) P xs (failing_is_no_top xs) (none_passes refl)) in
                rw (fails, same_where_failing xs x fails) (first-push g (top xs) 0 xs x ∙ rw (lost, fails) refl)
          ]
      grows (Some h) e none_passes =
          elim (cases_Bool (P x)) [
            | inr fails ↦ rw fails (kept h e (same_where_failing xs x fails))
            | inl passes ↦ elim (cases_Bool (beats x h)) [
              | inr under ↦ rw (passes, under) (kept h e (same_where_under xs x h e passes under))
              | inl over ↦
                  let unbeaten = not-true _ (and_parts (P h) (not (list_any (λ y. P y && beats y h) xs)) (found_passes (top xs) xs h e)).1 in
                  rw (passes, over) (taken passes
                  (list_any_weaker (λ y. P y && beats y x) (λ y. P y && beats y h) xs (λ y low. elim (and_cases (P y) (beats y h) low) [
                    | inl fails ↦ rw fails refl
                    | inr under ↦ and_right (P y) (beats y x) (order.one_way x y (beats_rest x y h over under))
                  ]) unbeaten)
                  (list_any_weaker (top grown) (λ y. P y && beats y h) xs (λ y low. elim (and_cases (P y) (beats y h) low) [
                    | inl fails ↦ failing_is_no_top grown y fails
                    | inr under ↦ rw (top-push xs x y, passes, beats_rest x y h over under) refl
                  ]) unbeaten))
            ]
          ]

    find_grows : (xs : List X) (x : X) → (find (top xs) xs ≡ None → list_any P xs ≡ false) → find (top (xs ++ x ∷ [])) (xs ++ x ∷ []) ≡ cond (takes (find (top xs) xs) x) (Some x) (find (top xs) xs)
    find_grows xs x none_passes =
        sym (first-find (top (xs ++ x ∷ [])) 0 (xs ++ x ∷ []))
        ∙ (grows (λ _ y. y) xs x (find (top xs) xs) refl none_passes ∙ ap (cond (takes (find (top xs) xs) x) (Some x)) (first-find (top xs) 0 xs))

    never : (b : Bool) (x h : X) → cond b (Some x) (Some h) ≡ None → ⊥
    never true x h e = cc
    never false x h e = cc

    -- If there is no top, nothing passes.
    none_passes_along : (before rest : List X) → (find (top before) before ≡ None → list_any P before ≡ false) → find (top (before ++ rest)) (before ++ rest) ≡ None → list_any P (before ++ rest) ≡ false
    none_passes_along before [] known none = rw append-nil (known (rw append-nil at none))
    none_passes_along before (x ∷ rest) known none =
        rw (← append_assoc before (x ∷ []) rest) (none_passes_along (before ++ x ∷ []) rest longer (rw (← append_assoc before (x ∷ []) rest) at none))
      where
        still_none : (held : Option X) → find (top before) before ≡ held → cond (takes held x) (Some x) held ≡ None → list_any P (before ++ x ∷ []) ≡ false
        still_none (Some h) e lost = absurd (never (takes (Some h) x) x h lost)
        still_none None e lost =
            elim (cases_Bool (P x)) [ inl passes ↦ absurd (never true x x (rw passes at lost)) | inr fails ↦ rw (list_any-append P before (x ∷ []), known e, fails) refl ]

        longer : find (top (before ++ x ∷ [])) (before ++ x ∷ []) ≡ None → list_any P (before ++ x ∷ []) ≡ false
        longer lost = still_none (find (top before) before) refl (sym (find_grows before x known) ∙ lost)

    none_passes : (xs : List X) → find (top xs) xs ≡ None → list_any P xs ≡ false
    none_passes xs = none_passes_along [] xs (λ _. refl)

    pub top_exists : (xs : List X) → is_some (find (top xs) xs) ≡ list_any P xs
    top_exists xs = go (find (top xs) xs) refl
      where
        go : (held : Option X) → find (top xs) xs ≡ held → is_some held ≡ list_any P xs
        go None e = sym (none_passes xs e)
        go (Some h) e =
            elim (cases_Bool (list_any P xs)) [
              | inl some ↦ sym some
              | inr none ↦ absurd (both_ways _ (found_fails (top xs) P xs h e none) (and_parts (P h) (not (list_any (λ y. P y && beats y h) xs)) (found_passes (top xs) xs h e)).0)
            ]

    -- The first top of a list that grows at its end, and its place.
    pub found-push : (xs : List X) (x : X) → find (top (xs ++ x ∷ [])) (xs ++ x ∷ []) ≡ cond (takes (find (top xs) xs) x) (Some x) (find (top xs) xs)
    found-push xs x = find_grows xs x (none_passes xs)

    pub place-push : (xs : List X) (x : X) → position (top (xs ++ x ∷ [])) (xs ++ x ∷ []) ≡ cond (takes (find (top xs) xs) x) (Some (length xs)) (position (top xs) xs)
    place-push xs x =
        place (top (xs ++ x ∷ [])) (xs ++ x ∷ [])
        ∙ (grows (λ i _. i) xs x (find (top xs) xs) refl (none_passes xs) ∙ ap (cond (takes (find (top xs) xs) x) (Some (length xs))) (sym (place (top xs) xs)))
      where
        place : (t : X → Bool) (ys : List X) → position t ys ≡ first (λ i _. i) t 0 ys
        place t ys = position_from-zero t ys ∙ sym (first-position_from t 0 ys)
