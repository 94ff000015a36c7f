-- A loop over a list that may change the members it has passed.
use Rattle.std.proofs.Common.{◌≡◌, ◌<◌, ◌+◌, ℕ, List, ◌∷◌, [], ◌++◌, length, take, drop, slice_index_or, slice_set, sym, ap, ◌∙◌, arith}
use Rattle.std.proofs.lemmas.List.{at_drop_more, drop-set-lt, take-append-drop, take_more}
use Rattle.std.proofs.lemmas.Grind.{drop_more_same}

module _ {X : Type 0} (all now : List X) (at : ℕ) (left : drop at now ≡ drop at all) where
  -- the member at the place is the first of the remaining members
  pub comes_first : (default : X) → at < length now → drop at all ≡ slice_index_or now at default ∷ drop (at + 1) all
  comes_first default below =
      sym left ∙ at_drop_more (λ rest. rest) now at default below
      ∙ ap (λ rest. slice_index_or now at default ∷ rest) (drop_more_same now all at left)

  -- the list consists of the passed members, the current one and the remaining ones
  pub are_split : (default : X) → at < length now → all ≡ take at all ++ slice_index_or now at default ∷ drop (at + 1) all
  are_split default below = sym (take-append-drop at all) ∙ ap (λ rest. take at all ++ rest) (comes_first default below)

  -- with the current member, one more has been passed
  pub one_more : (default : X) → at < length now → at < length all → take (at + 1) all ≡ take at all ++ slice_index_or now at default ∷ []
  one_more default below within =
      let same = sym (comes_first default below) ∙ at_drop_more (λ rest. rest) all at default within in
      take_more all at default within ∙ ap (λ last. take at all ++ last ∷ []) (sym (ap (λ rest. slice_index_or rest 0 default) same))

  -- replacing the current member does not change the remaining ones
  pub stays_left : (new : X) → drop (at + 1) (slice_set now at new) ≡ drop (at + 1) all
  stays_left new = drop-set-lt (at + 1) now at new (omega arith) ∙ drop_more_same now all at left
