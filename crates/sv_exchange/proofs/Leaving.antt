-- A nonempty prefix is the prefix that is one item shorter, and one more item.
use Rattle.std.specs.Prelude.{slice_index_or}
use Rattle.std.proofs.Common.{◌≡◌, ℕ, zero, suc, ◌-◌, ◌+◌, ◌<◌, ◌≤◌, List, [], ◌∷◌, ◌++◌, length, take, subst, ap, ◌∙◌, arith}
use Rattle.std.proofs.lemmas.List.{take_more}

pub one_less : {X : Type 0} (xs : List X) (n : ℕ) → 0 < length (take n xs) → n ≤ length xs → (x : X) × (take n xs ≡ take (n - 1) xs ++ x ∷ [])
one_less xs zero some within = absurd (omega (arith, some))
one_less [] (suc n) some within = absurd (omega (arith, within))
one_less (y ∷ ys) (suc n) some within =
    let less : n ≡ suc n - 1 = omega arith in
    let more : suc n ≡ n + 1 = omega arith in
    let front = ap (λ k. take k (y ∷ ys)) more ∙ take_more (y ∷ ys) n y (omega arith) in
    (slice_index_or (y ∷ ys) n y, subst (λ k. take (suc n) (y ∷ ys) ≡ take k (y ∷ ys) ++ slice_index_or (y ∷ ys) n y ∷ []) less front)
