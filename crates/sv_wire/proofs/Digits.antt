-- The digits of a number in base 16, and how many there are.
use Rattle.std.proofs.Common.{◌≡◌, ℕ, zero, suc, ◌+◌, ◌/◌, ◌%◌, ◌^◌, ◌<◌, ◌≤◌, Bool, true, false, cond, eqb, ltb, List, [], ◌∷◌, length, refl, arith, pow-suc, ltb-true, ltb-false}
use Rattle.std.proofs.lemmas.Bool.{eqb-false}
use Rattle.std.specs.Fmt.{digits, digits_onto, digit_glyph}
use Rattle.std.specs.List.{AllByRecursion}

-- A property of 0 to 9 and of a to f is a property of each digit.
glyph_is : (P : ℕ → Type 0) → ((c : ℕ) → 48 ≤ c → c < 58 → P c) → ((c : ℕ) → 97 ≤ c → c < 103 → P c) → (d : ℕ) → d < 16 → P (digit_glyph false d)
glyph_is P digit letter d small = by_test (ltb d 10) refl
  where
    by_test : (t : Bool) → ltb d 10 ≡ t → P (cond t (48 + d) (87 + d))
    by_test true low = let below = ltb-true d 10 low in digit (48 + d) (omega arith) (omega arith)
    by_test false high = let above = ltb-false d 10 high in letter (87 + d) (omega arith) (omega arith)

module _ (P : ℕ → Type 0) (digit : (c : ℕ) → 48 ≤ c → c < 58 → P c) (letter : (c : ℕ) → 97 ≤ c → c < 103 → P c) where
  onto_all : (k n : ℕ) (acc : List ℕ) → AllByRecursion P acc → AllByRecursion P (digits_onto k 16 false n acc)
  onto_all zero n acc all = all
  onto_all (suc k) n acc all =
      let more : P (digit_glyph false (n % 16)) × AllByRecursion P acc = (glyph_is P digit letter (n % 16) (omega arith), all) in
      by_test (eqb (n / 16) 0) (digit_glyph false (n % 16) ∷ acc) _ more (onto_all k (n / 16) (digit_glyph false (n % 16) ∷ acc) more)
    where
      by_test : (t : Bool) (xs ys : List ℕ) → AllByRecursion P xs → AllByRecursion P ys → AllByRecursion P (cond t xs ys)
      by_test true xs ys first second = first
      by_test false xs ys first second = second

  pub digits_all : (n : ℕ) → AllByRecursion P (digits 16 false n)
  unfolding digits
  digits_all n = onto_all 64 n [] tt

-- A number below a power of 16 has at most as many digits as the exponent.
onto_length : (k i n : ℕ) (acc : List ℕ) → n < 16 ^ suc i → length (digits_onto k 16 false n acc) ≤ suc i + length acc
onto_length zero i n acc small = omega arith
onto_length (suc k) zero n acc small = by_test (eqb (n / 16) 0) refl
  where
    by_test : (t : Bool) → eqb (n / 16) 0 ≡ t
        → length (cond t (digit_glyph false (n % 16) ∷ acc) (digits_onto k 16 false (n / 16) (digit_glyph false (n % 16) ∷ acc))) ≤ 1 + length acc
    by_test true last = omega arith
    by_test false more = absurd (eqb-false (n / 16) 0 more (omega arith))
onto_length (suc k) (suc i) n acc small =
    by_test (eqb (n / 16) 0) (onto_length k i (n / 16) (digit_glyph false (n % 16) ∷ acc) (omega (arith, pow-suc 16 (suc i))))
  where
    by_test : (t : Bool) → length (digits_onto k 16 false (n / 16) (digit_glyph false (n % 16) ∷ acc)) ≤ suc i + suc (length acc)
        → length (cond t (digit_glyph false (n % 16) ∷ acc) (digits_onto k 16 false (n / 16) (digit_glyph false (n % 16) ∷ acc))) ≤ suc (suc i) + length acc
    by_test true fits = omega arith
    by_test false fits = omega (arith, fits)

pub digits_few : (n : ℕ) → n < 2 ^ 64 → length (digits 16 false n) ≤ 16
unfolding digits
digits_few n small = omega (arith, onto_length 64 15 n [] (omega arith))
