-- The load-on-startup order as a stable sort of the indexes by rank.
use Rattle.std.proofs.Common.{Greater, ◌≡◌, ℕ, ◌+◌, inl, inr, List, [], ◌∷◌, ◌++◌, length, get_or, sym, ◌∙◌, ap, ap₂, subst, arith}
use Rattle.std.specs.List.{range_with_len}
use Rattle.std.specs.List.Sorted.{IsPermutation, IsSortedByKey, IsStableByKey}
use Rattle.std.specs.Cmp.{nat_cmp_is}
use Rattle.std.specs.Ordering.{is_lt, nat_cmp}
use Rattle.std.proofs.lemmas.Bool.{cases_lt}
use Rattle.std.proofs.lemmas.List.FromFn.{get_or-range_with_len, length-range_with_len, map-range_with_len_more}
use Rattle.std.proofs.lemmas.List.{map-id}
use Rattle.std.proofs.lemmas.List.Sorted.{IsNonDecreasingBy-from_sort, ties_still_rise}
use Rattle.sv_descriptor.specs.declared.servlet.ServletEntry.{ServletEntry}
use Rattle.sv_lifecycle.specs.Order.{IsLoadOrder, rank_at}

places_rise : (count : ℕ) → IsSortedByKey (λ place. place) nat_cmp (range_with_len 0 count)
places_rise count k d low within =
    let len = length-range_with_len 0 count in
    ap₂ (λ a b. is_lt (nat_cmp a b)) (get_or-range_with_len 0 count (k + 1) d (omega (arith, within, len))) (get_or-range_with_len 0 count k d (omega (arith, within, len)))
    ∙ sym (ap is_lt (nat_cmp_is (0 + (k + 1)) (0 + k) Greater (omega arith)))

pub is_load_order : (servlets : List ServletEntry) (before after : List ℕ) → before ≡ range_with_len 0 (length servlets) → IsPermutation before after
    → IsSortedByKey (rank_at servlets) nat_cmp after → IsStableByKey (rank_at servlets) nat_cmp before after → IsLoadOrder servlets after
is_load_order servlets before after are permutation sorted stable =
    let rise : IsSortedByKey (λ place. place) nat_cmp before = subst (IsSortedByKey (λ place. place) nat_cmp) (sym are) (places_rise (length servlets)) in
    record {
      each_once = subst (λ xs. IsPermutation xs after) are permutation;
      in_order = λ k d within.
          let up = IsNonDecreasingBy-from_sort (rank_at servlets) after sorted k (k + 1) d (omega arith) within in
          elim (cases_lt (rank_at servlets (get_or after k d)) (rank_at servlets (get_or after (k + 1) d))) [
            | inl lower ↦ inl lower
            | inr not_lower ↦
                let same : rank_at servlets (get_or after k d) ≡ rank_at servlets (get_or after (k + 1) d) = omega (arith, up, not_lower) in
                inr (same, ties_still_rise (λ place. place) (rank_at servlets) before after rise stable k d within same)
          ];
    }

-- One more index.
pub places_more : (count : ℕ) → range_with_len 0 (count + 1) ≡ range_with_len 0 count ++ count ∷ []
places_more count =
    sym (map-id (range_with_len 0 (count + 1))) ∙ map-range_with_len_more (λ place. place) 0 count count (omega arith) ∙ ap (λ xs. xs ++ count ∷ []) (map-id (range_with_len 0 count))
