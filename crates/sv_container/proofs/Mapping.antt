-- Lists that are mapped one item after another.
use Rattle.std.proofs.Common.{◌≡◌, ℕ, zero, suc, ◌<◌, ◌≤◌, List, [], ◌∷◌, length, map, slice_index_or, slice_set, refl, ap, arith}

module _ {A : Type 0} (f : A → A) where
  -- the first `count` items are mapped
  abbrev pub mapped_to : ℕ → List A → List A
  mapped_to zero items = items
  mapped_to (suc count) [] = []
  mapped_to (suc count) (item ∷ items) = f item ∷ mapped_to count items

  pub mapped_length : (count : ℕ) (items : List A) → length (mapped_to count items) ≡ length items
  mapped_length zero items = refl
  mapped_length (suc count) [] = refl
  mapped_length (suc count) (item ∷ items) = ap suc (mapped_length count items)

  pub mapped_next : (count : ℕ) (items : List A) (old : A) → count < length items → old ≡ slice_index_or (mapped_to count items) count old
      → slice_set (mapped_to count items) count (f old) ≡ mapped_to (suc count) items
  mapped_next zero [] old within is = absurd (omega (arith, within))
  mapped_next zero (item ∷ items) old within is = ap (λ a. f a ∷ items) is
  mapped_next (suc count) [] old within is = absurd (omega (arith, within))
  mapped_next (suc count) (item ∷ items) old within is = ap (λ others. f item ∷ others) (mapped_next count items old (omega (arith, within)) is)

  pub mapped_whole : (count : ℕ) (items : List A) → length items ≤ count → mapped_to count items ≡ map f items
  mapped_whole zero [] past = refl
  mapped_whole zero (item ∷ items) past = absurd (omega (arith, past))
  mapped_whole (suc count) [] past = refl
  mapped_whole (suc count) (item ∷ items) past = ap (λ others. f item ∷ others) (mapped_whole count items (omega (arith, past)))
