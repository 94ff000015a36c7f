-- The first of borrowed texts.
use Rattle.std.proofs.Common.{arith, ◌≡◌, ℕ, zero, suc, List, [], ◌∷◌, length, map, min, take, refl, ap, sym, ◌∙◌}
use Rattle.std.specs.Borrow.{Bor}

abbrev pub texts : List (Bor (List ℕ)) → List (List ℕ)
texts names = map (λ (name : Bor (List ℕ)). name.now) names

map_take : (n : ℕ) (xs : List (Bor (List ℕ))) → texts (take n xs) ≡ take n (texts xs)
map_take zero xs = refl
map_take (suc n) [] = refl
map_take (suc n) (x ∷ xs) = ap (λ rest. x.now ∷ rest) (map_take n xs)

take_none : (n : ℕ) → take {A = List ℕ} n [] ≡ []
take_none zero = refl
take_none (suc n) = refl

take_least : (xs : List (List ℕ)) (most : ℕ) → take (min (length xs) most) xs ≡ take most xs
take_least [] most = take_none (min (length {A = List ℕ} []) most) ∙ sym (take_none most)
take_least (x ∷ xs) zero = let none : min (length (x ∷ xs)) zero ≡ zero = omega arith in ap (λ n. take n (x ∷ xs)) none
take_least (x ∷ xs) (suc most) =
    let less : min (length (x ∷ xs)) (suc most) ≡ suc (min (length xs) most) = omega arith in
    ap (λ n. take n (x ∷ xs)) less ∙ ap (λ rest. x ∷ rest) (take_least xs most)

length_seen : (xs : List (Bor (List ℕ))) → length (texts xs) ≡ length xs
length_seen [] = refl
length_seen (x ∷ xs) = ap suc (length_seen xs)

pub first_texts : (xs : List (Bor (List ℕ))) (count shown most : ℕ) → count ≡ length xs → shown ≡ min count most → texts (take shown xs) ≡ take most (texts xs)
first_texts xs count shown most counted is =
    map_take shown xs ∙ ap (λ n. take n (texts xs)) (is ∙ ap (λ n. min n most) (counted ∙ sym (length_seen xs))) ∙ take_least (texts xs) most

pub same_length : (xs : List (Bor (List ℕ))) (count : ℕ) → count ≡ length xs → count ≡ length (texts xs)
same_length xs count counted = counted ∙ sym (length_seen xs)
