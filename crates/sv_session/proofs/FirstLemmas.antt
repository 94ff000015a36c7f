-- The first item of a list that passes a test: found, changed or removed. Also lists without such an item.
use Rattle.std.proofs.Common.{◌≡◌, ℕ, zero, suc, ◌+◌, ◌<◌, ◌≤◌, Bool, true, false, not, cond, List, [], ◌∷◌, length, None, Some, refl, ap, inl, inr, ltb, arith}
use Rattle.std.proofs.lemmas.Bool.{cases_Bool, ltb-false}
use Rattle.std.specs.List.{find, list_any, position, position_or_len, remove, slice_index_or, slice_set}
use Rattle.std.specs.Option.{is_none}
use Rattle.sv_session.specs.Lists.{on_first, without_first}

-- The first item that passes is at this index.
pub record IsFirstAt {X : Type 0} (p : X → Bool) (xs : List X) (k : ℕ) : Type 0 where
  pub there : k < length xs
  pub finds : (d : X) → find p xs ≡ Some (slice_index_or xs k d)
  pub some : is_none (find p xs) ≡ false
  pub any : list_any p xs ≡ true
  pub changes : (f : X → X) (d : X) → slice_set xs k (f (slice_index_or xs k d)) ≡ on_first p f xs
  pub leaves : remove xs k ≡ without_first p xs
  pub same : (d : X) → slice_set xs k (slice_index_or xs k d) ≡ xs

-- No item passes.
pub record IsMissed {X : Type 0} (p : X → Bool) (xs : List X) : Type 0 where
  pub finds : find p xs ≡ None
  pub any : list_any p xs ≡ false
  pub changes : (f : X → X) → on_first p f xs ≡ xs
  pub leaves : without_first p xs ≡ xs

by_test : {X : Type 0} (p : X → Bool) (x : X) (xs : List X) (k : ℕ) (t : Bool) → p x ≡ t → cond (not t) (1 + position_or_len p xs) 0 ≡ k
    → ((m : ℕ) → position_or_len p xs ≡ m → m < length xs → IsFirstAt p xs m) → k < length (x ∷ xs) → IsFirstAt p (x ∷ xs) k
by_test p x xs zero true pass same later within =
    record { there = within; finds = λ d. rw pass; some = rw pass; any = rw pass; changes = λ f d. rw pass; leaves = rw pass; same = λ d. refl }
by_test p x xs (suc k) true pass same later within = absurd (omega (arith, same))
by_test p x xs zero false fail same later within = absurd (omega (arith, same))
by_test p x xs (suc k) false fail same later within =
    let at : IsFirstAt p xs k = later k (omega (arith, same)) (omega (arith, within)) in
    record { there = within; finds = λ d. rw (fail, at.finds d); some = rw (fail, at.some); any = rw (fail, at.any); changes = λ f d. rw (fail, at.changes f d); leaves = rw (fail, at.leaves); same = λ d. ap (λ rest. x ∷ rest) (at.same d) }

at_position : {X : Type 0} (p : X → Bool) (xs : List X) (k : ℕ) → position_or_len p xs ≡ k → k < length xs → IsFirstAt p xs k
at_position p [] k same within = absurd (omega (arith, within))
at_position p (x ∷ xs) k same within = by_test p x xs k (p x) refl same (at_position p xs) within

pub found_at : {X : Type 0} (p : X → Bool) (xs : List X) (k : ℕ) → position p xs ≡ Some k → k < length xs → IsFirstAt p xs k
found_at p xs k found within = by_bound (ltb (position_or_len p xs) (length xs)) refl
  where
    by_bound : (t : Bool) → ltb (position_or_len p xs) (length xs) ≡ t → IsFirstAt p xs k
    by_bound true less = at_position p xs k (cc) within
    by_bound false more = absurd (cc)

past_all : {X : Type 0} (p : X → Bool) (xs : List X) → length xs ≤ position_or_len p xs → IsMissed p xs
past_all p [] past = record { finds = refl; any = refl; changes = λ f. refl; leaves = refl }
past_all p (x ∷ xs) past = elim (cases_Bool (p x)) [
  | inl pass ↦ let here = rw pass at past in absurd (omega (arith, here))
  | inr fail ↦
      let later = rw fail at past in
      let more = past_all p xs (omega (arith, later)) in
      record {
        finds = rw fail more.finds;
        any = rw fail more.any;
        changes = λ f. rw fail (ap (λ rest. x ∷ rest) (more.changes f));
        leaves = rw fail (ap (λ rest. x ∷ rest) more.leaves);
      }
]

pub missed_at : {X : Type 0} (p : X → Bool) (xs : List X) → position p xs ≡ None → IsMissed p xs
missed_at p xs missed = elim (cases_Bool (ltb (position_or_len p xs) (length xs))) [
  | inl less ↦ let found : Some (position_or_len p xs) ≡ None = rw less at missed in cc
  | inr more ↦ past_all p xs (ltb-false (position_or_len p xs) (length xs) more)
]

-- No item is found.
pub none_found : {X : Type 0} (p : X → Bool) (xs : List X) → find p xs ≡ None → IsMissed p xs
none_found p [] none = record { finds = refl; any = refl; changes = λ f. refl; leaves = refl }
none_found p (x ∷ xs) none = elim (cases_Bool (p x)) [
  | inl pass ↦ let found : Some x ≡ None = rw pass at none in cc
  | inr fail ↦
      let more = none_found p xs (rw fail at none) in
      record {
        finds = rw fail more.finds;
        any = rw fail more.any;
        changes = λ f. rw fail (ap (λ rest. x ∷ rest) (more.changes f));
        leaves = rw fail (ap (λ rest. x ∷ rest) more.leaves);
      }
]
