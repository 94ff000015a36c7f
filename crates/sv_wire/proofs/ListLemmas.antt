-- Taking and dropping more than the first part of a joined list.
use Rattle.std.proofs.Common.{◌≡◌, ℕ, zero, suc, ◌+◌, List, [], ◌∷◌, ◌++◌, length, take, drop, ap, arith}

pub take_behind : (xs ys : List ℕ) (k n : ℕ) → k ≡ length xs + n → take k (xs ++ ys) ≡ xs ++ take n ys
take_behind [] ys k n is = let same : k ≡ n = omega arith in rw same
take_behind (x ∷ xs) ys zero n is = absurd (omega arith)
take_behind (x ∷ xs) ys (suc k) n is = ap (λ zs. x ∷ zs) (take_behind xs ys k n (omega arith))

pub drop_behind : (xs ys : List ℕ) (k n : ℕ) → k ≡ length xs + n → drop k (xs ++ ys) ≡ drop n ys
drop_behind [] ys k n is = let same : k ≡ n = omega arith in rw same
drop_behind (x ∷ xs) ys zero n is = absurd (omega arith)
drop_behind (x ∷ xs) ys (suc k) n is = drop_behind xs ys k n (omega arith)
