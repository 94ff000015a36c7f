use Rattle.std.proofs.Common.{◌≡◌, ℕ, Bool, true, false, ◌&&◌, nat_eq, List, [], ◌∷◌, length, fold, bit_or, bit_xor, refl, ap, ◌∙◌, arith}
use Rattle.std.specs.Int.Bits.{or_add_and, xor_add_and, or_zero_l, xor_self}
use Rattle.std.specs.List.{zip}
use Rattle.std.specs.Str.{bytes_eq}
use Rattle.std.proofs.lemmas.Bool.Decides.{Decides-and, Decides-eqb, same_from_decides}
use Rattle.std.proofs.lemmas.Nat.{and_le_l, and_le_r}

none_differs : (bits x y : ℕ) → bit_or bits (bit_xor x y) ≡ 0 → (bits ≡ 0) × (x ≡ y)
none_differs bits x y e =
    let joined = or_add_and bits (bit_xor x y) in
    let first = and_le_l bits (bit_xor x y) in
    let second = and_le_r bits (bit_xor x y) in
    let apart = xor_add_and x y in
    let left = and_le_l x y in
    let right = and_le_r x y in
    (omega arith, omega arith)

same_byte : (bits x y : ℕ) → (bits ≡ 0) × (x ≡ y) → bit_or bits (bit_xor x y) ≡ 0
same_byte bits x y (none, same) = rw (none, same, xor_self) (or_zero_l 0)

one_byte : (bits x y : ℕ) → nat_eq (bit_or bits (bit_xor x y)) 0 ≡ (nat_eq bits 0 && nat_eq x y)
one_byte bits x y =
    let told = Decides-eqb (bit_or bits (bit_xor x y)) 0 in
    let parts = Decides-and (nat_eq bits 0) (nat_eq x y) (Decides-eqb bits 0) (Decides-eqb x y) in
    same_from_decides {P = (bits ≡ 0) × (x ≡ y)} _ _ (λ h. none_differs bits x y (told.0 h), λ h. told.1 (same_byte bits x y h)) parts

regrouped : (p q r : Bool) → ((p && q) && r) ≡ (p && (q && r))
regrouped true q r = refl
regrouped false q r = refl

-- No difference is found exactly if none was found before and the bytes are equal.
pub no_difference : (bits : ℕ) (xs ys : List ℕ) → length xs ≡ length ys
    → nat_eq (fold (λ seen pair. bit_or seen (bit_xor pair.0 pair.1)) bits (zip xs ys)) 0 ≡ (nat_eq bits 0 && bytes_eq xs ys)
no_difference bits [] [] e = grind arith
no_difference bits [] (y ∷ ys) e = absurd (omega arith)
no_difference bits (x ∷ xs) [] e = absurd (omega arith)
no_difference bits (x ∷ xs) (y ∷ ys) e =
    no_difference (bit_or bits (bit_xor x y)) xs ys (omega arith)
    ∙ ap (λ b. b && bytes_eq xs ys) (one_byte bits x y)
    ∙ regrouped (nat_eq bits 0) (nat_eq x y) (bytes_eq xs ys)
