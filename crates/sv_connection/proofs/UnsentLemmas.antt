-- The first bytes of three lists in a row, and the bytes behind them.
use Rattle.std.proofs.Common.{◌≡◌, ℕ, ◌-◌, List, [], ◌∷◌, ◌++◌, zero, suc, refl, sym, ap, ◌∙◌, append_assoc, length, take, drop, min, arith}
use Rattle.bytes.proofs.Chunks.{drop-append_min}

take_two : (count : ℕ) (a b : List ℕ) → take count (a ++ b) ≡ take count a ++ take (count - length (take count a)) b
take_two zero a b = refl
take_two (suc n) [] b = let d : suc n - 0 ≡ suc n = omega arith in rw d refl
take_two (suc n) (x ∷ a) b =
    let d : suc n - suc (length (take n a)) ≡ n - length (take n a) = omega arith in
    rw d (ap (λ rest. x ∷ rest) (take_two n a b))

pub take_three : (count : ℕ) (a b c : List ℕ)
    → take count ((a ++ b) ++ c)
    ≡ (take count a ++ take (count - length (take count a)) b)
    ++ take (count - length (take count a) - length (take (count - length (take count a)) b)) c
take_three count a b c =
    let left = count - length (take count a) in
    ap (take count) (append_assoc a b c) ∙ take_two count a (b ++ c) ∙ ap (λ rest. take count a ++ rest) (take_two left b c)
    ∙ sym (append_assoc (take count a) (take left b) (take (left - length (take left b)) c))

pub drop_three : (count : ℕ) (a b c : List ℕ)
    → drop count ((a ++ b) ++ c)
    ≡ (drop (min count (length a)) a ++ drop (min (count - min count (length a)) (length b)) b)
    ++ drop (count - min count (length a) - min (count - min count (length a)) (length b)) c
drop_three count a b c =
    let left = count - min count (length a) in
    ap (drop count) (append_assoc a b c) ∙ drop-append_min a (b ++ c) count ∙ ap (λ rest. drop (min count (length a)) a ++ rest) (drop-append_min b c left)
    ∙ sym (append_assoc (drop (min count (length a)) a) (drop (min left (length b)) b) (drop (left - min left (length b)) c))
