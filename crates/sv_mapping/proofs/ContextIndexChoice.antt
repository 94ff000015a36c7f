-- The choice of a context path, from the path itself outwards.
use Rattle.std.proofs.Common.{ℕ, ◌≡◌, ◌+◌, ◌<◌, ◌≤◌, Bool, true, false, not, ltb, cond, ◌&&◌, ◌||◌, List, [], ◌∷◌, length, length-take, take, take_all, get_or, Option, Some, None, is_some, IfSome, IsTrue, sym, refl, ap, subst, ◌∙◌, ⊎_elim, arith}
use Rattle.std.specs.List.{list_any, position, position_from, slice_get}
use Rattle.std.specs.Str.{bytes_eq}
use Rattle.std.proofs.lemmas.Bool.{and_from, and_parts, and_right, both_ways, cases_Bool, false_from_ne_true, le-ltb, lt-ltb, ltb-false, ltb-true, not_from_false, not_from_true, or_cases, or_from, or_left, or_parts, or_right}
use Rattle.std.proofs.lemmas.Iterator.Adapters.{position_from-zero}
use Rattle.std.proofs.lemmas.List.Quantifiers.{position-Some}
use Rattle.std.proofs.lemmas.Option.{get_or_from_slice_get}
use Rattle.std.proofs.lemmas.Slice.Eq.{bytes_eq-Decides}
use Rattle.sv_text.proofs.FirstPlace.{position_some}
use Rattle.sv_mapping.specs.Fronts.{serves}
use Rattle.sv_mapping.specs.ContextIndexPlaces.{place_of}
use Rattle.sv_mapping.proofs.ContextPathTexts.{below_front}
use Rattle.sv_mapping.specs.Chosen.{is_chosen}
use Rattle.sv_mapping.specs.Pattern.{is_at_or_below}

-- ---- tests that agree if a third fails
module _ {X : Type 0} (t u v : X → Bool) (same : (x : X) → v x ≡ false → t x ≡ u x) where
  any_same : (xs : List X) → list_any v xs ≡ false → list_any t xs ≡ list_any u xs
  any_same [] none = refl
  any_same (x ∷ xs) none =
      let parts = or_parts (v x) (list_any v xs) none in
      λ i. same x parts.0 i || any_same xs parts.1 i

  from_same : (place : ℕ) (xs : List X) → list_any v xs ≡ false → position_from t place xs ≡ position_from u place xs
  from_same place [] none = refl
  from_same place (x ∷ xs) none =
      let parts = or_parts (v x) (list_any v xs) none in
      λ i. cond (same x parts.0 i) (Some place) (from_same (place + 1) xs parts.1 i)

  position_same : (xs : List X) → list_any v xs ≡ false → position t xs ≡ position u xs
  position_same xs none = position_from-zero t xs ∙ from_same 0 xs none ∙ sym (position_from-zero u xs)

from_none : {X : Type 0} (place : ℕ) (xs : List X) → position_from (λ (x : X). false) place xs ≡ None
from_none place [] = refl
from_none place (x ∷ xs) = from_none (place + 1) xs

position_none : {X : Type 0} (xs : List X) → position (λ (x : X). false) xs ≡ None
position_none xs = position_from-zero (λ x. false) xs ∙ from_none 0 xs

any_false : {X : Type 0} (t : X → Bool) → ((x : X) → t x ≡ false) → (xs : List X) → list_any t xs ≡ false
any_false t fails [] = refl
any_false t fails (x ∷ xs) = or_from (t x) (list_any t xs) (fails x) (any_false t fails xs)

any_weaker : {X : Type 0} (t u : X → Bool) → ((x : X) → t x ≡ true → u x ≡ true) → (xs : List X) → list_any t xs ≡ true → list_any u xs ≡ true
any_weaker t u weaker [] found = cc
any_weaker t u weaker (x ∷ xs) found =
    ⊎_elim
    (λ here. or_left (u x) (list_any u xs) (weaker x here))
    (λ later. or_right (u x) (list_any u xs) (any_weaker t u weaker xs later))
    (or_cases (t x) (list_any t xs) found)

-- The element at the first place where two tests pass passes the first test.
pub place_passes : {X : Type 0} (first second : X → Bool) (xs : List X) (found : Option ℕ) → found ≡ position (λ x. first x && second x) xs
    → IfSome found (λ place. (x : X) → slice_get xs place ≡ Some x → IsTrue (first x))
place_passes first second xs None at = tt
place_passes first second xs (Some place) at = λ x there.
    let passes = (position-Some (λ y. first y && second y) xs place x (sym at)).1 in
    (and_parts _ _ (subst (λ y. (first y && second y) ≡ true) (get_or_from_slice_get xs place x x there) passes)).0

-- ---- the place of the context path of a front, or none without a front
abbrev pub chosen_in : List (List ℕ) → Option (List ℕ) → Option ℕ
chosen_in paths None = None
chosen_in paths (Some front) = position (is_chosen paths front) paths

-- A context path that serves a path is not longer than it.
served_length : (context path : List ℕ) → is_at_or_below context path ≡ true → length context ≤ length path
served_length context path below = omega (arith, ap length (below_front context path below), length-take (length context) path)

serves_itself : (path : List ℕ) → is_at_or_below path path ≡ true
serves_itself path = or_left (bytes_eq path path) _ ((bytes_eq-Decides path path).1 refl)

module _ (paths : List (List ℕ)) (front : List ℕ) where
  abbrev longer : List ℕ → List ℕ → Bool
  longer context other = is_at_or_below other front && ltb (length context) (length other)

  none_longer : list_any (longer front) paths ≡ false
  none_longer =
      any_false (longer front)
      (λ other.
      ⊎_elim
      (λ below. and_right (is_at_or_below other front) _ (le-ltb (length front) (length other) (served_length other front below)))
      (λ apart. ap (λ b. b && ltb (length front) (length other)) apart)
      (cases_Bool (is_at_or_below other front)))
      paths

  -- If the front is a context path, only this one is chosen.
  only_front : list_any (λ path. bytes_eq path front) paths ≡ true → (context : List ℕ) → is_chosen paths front context ≡ bytes_eq context front
  only_front there context =
      ⊎_elim
      (λ same.
      let is : context ≡ front = (bytes_eq-Decides context front).0 same in
      ap (is_chosen paths front) is
      ∙ and_from (is_at_or_below front front) _ (serves_itself front) (not_from_false _ none_longer) ∙ sym same)
      (λ apart.
      ⊎_elim
      (λ below.
      let over : length context < length front = shorter context below apart in
      let found : list_any (longer context) paths ≡ true =
      any_weaker (λ path. bytes_eq path front) (longer context)
      (λ path is.
      let it : path ≡ front = (bytes_eq-Decides path front).0 is in
      and_from _ _ (ap (λ p. is_at_or_below p front) it ∙ serves_itself front) (ap (λ (p : List ℕ). ltb (length context) (length p)) it ∙ lt-ltb _ _ over))
      paths there in
      and_right (is_at_or_below context front) _ (not_from_true _ found) ∙ sym apart)
      (λ beside. ap (λ b. b && not (list_any (longer context) paths)) beside ∙ sym apart)
      (cases_Bool (is_at_or_below context front)))
      (cases_Bool (bytes_eq context front))
    where
      shorter : (other : List ℕ) → is_at_or_below other front ≡ true → bytes_eq other front ≡ false → length other < length front
      shorter other below apart =
          ⊎_elim
          (λ less. ltb-true (length other) (length front) less)
          (λ reached.
          let whole : take (length other) front ≡ front = take_all (length other) front (ltb-false _ _ reached) in
          absurd (both_ways _ apart ((bytes_eq-Decides other front).1 (sym (below_front other front below) ∙ whole))))
          (cases_Bool (ltb (length other) (length front)))

  pub chosen-here : (place : ℕ) → place_of paths front ≡ Some place → position (is_chosen paths front) paths ≡ Some place
  chosen-here place found =
      let there = sym (position_some (λ path. bytes_eq path front) paths) ∙ ap is_some found in
      ap (λ test. position test paths) (λ i context. only_front there context i) ∙ found

  -- If it is none, each context path that serves the front serves the front before it.
  module _ (outer : Option (List ℕ)) (up : (context : List ℕ) → is_at_or_below context front ≡ (bytes_eq front context || serves context outer)) where
    serves_outer : (context : List ℕ) → bytes_eq context front ≡ false → is_at_or_below context front ≡ serves context outer
    serves_outer context apart =
        up context
        ∙ ap (λ b. b || serves context outer)
        (false_from_ne_true _ (λ same. both_ways _ apart ((bytes_eq-Decides context front).1 (sym ((bytes_eq-Decides front context).0 same)))))

    abbrev is_chosen_out : List ℕ → Bool
    is_chosen_out context = serves context outer && not (list_any (λ other. serves other outer && ltb (length context) (length other)) paths)

    pub chosen-out : place_of paths front ≡ None → position (is_chosen paths front) paths ≡ position is_chosen_out paths
    chosen-out missing =
        let none = sym (position_some (λ path. bytes_eq path front) paths) ∙ ap is_some missing in
        position_same (is_chosen paths front) is_chosen_out (λ path. bytes_eq path front)
        (λ context apart i.
        serves_outer context apart i
        && not (any_same (longer context) (λ other. serves other outer && ltb (length context) (length other)) (λ path. bytes_eq path front)
        (λ other aside. ap (λ b. b && ltb (length context) (length other)) (serves_outer other aside)) paths none i))
        paths none

  pub chosen-up : (outer : Option (List ℕ)) → ((context : List ℕ) → is_at_or_below context front ≡ (bytes_eq front context || serves context outer))
      → place_of paths front ≡ None → position (is_chosen paths front) paths ≡ chosen_in paths outer
  chosen-up None up missing = chosen-out None up missing ∙ position_none paths
  chosen-up (Some rest) up missing = chosen-out (Some rest) up missing
