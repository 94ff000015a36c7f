-- What a page shows of contexts is the first part of all.
use Rattle.std.proofs.Common.{arith, ◌≡◌, ℕ, zero, suc, ◌-◌, ◌≤◌, List, [], ◌∷◌, ◌++◌, ◌∙◌, length, map, take, take_all, refl, sym, ap, ap₂}
use Rattle.std.proofs.lemmas.List.{length-append, length-take}
use Rattle.std.specs.List.{flat_map}
use Rattle.sv_report.specs.declared.report.ContextReport.{ContextReport}
use Rattle.sv_page.specs.Shares.{shares, shown}

none_taken : {A : Type 0} (ys : List A) → take 0 ys ≡ []
none_taken [] = refl
none_taken (y ∷ ys) = refl

none_left : (m : ℕ) → 0 ≡ 0 - suc m
none_left m = omega arith

all_left : (n : ℕ) → suc n ≡ suc n - 0
all_left n = omega arith

one_less : (n m : ℕ) → n - m ≡ suc n - suc m
one_less n m = omega arith

take_append : {A : Type 0} (n : ℕ) (xs ys : List A) → take n (xs ++ ys) ≡ take n xs ++ take (n - length xs) ys
take_append zero [] ys = refl
take_append (suc n) [] ys = ap (λ (k : ℕ). take k ys) (all_left n)
take_append zero (x ∷ xs) ys = sym (none_taken ys) ∙ ap (λ (k : ℕ). take k ys) (none_left (length xs))
take_append (suc n) (x ∷ xs) ys = ap (λ rest. x ∷ rest) (take_append n xs ys) ∙ ap (λ (k : ℕ). x ∷ take n xs ++ take k ys) (one_less n (length xs))

module _ {A : Type 0} (items : ContextReport → List A)
  where
    pub first : (left : ℕ) (contexts : List ContextReport) → shown (shares items left contexts) ≡ take left (flat_map items contexts)
    first zero [] = refl
    first (suc left) [] = refl
    first left (context ∷ contexts) =
        ap (λ rest. take left (items context) ++ rest) (first (left - length (items context)) contexts) ∙ sym (take_append left (items context) (flat_map items contexts))

    pub few : (left : ℕ) (contexts : List ContextReport) → length (shown (shares items left contexts)) ≤ left
    few left contexts = omega (arith, ap length (first left contexts), length-take left (flat_map items contexts))

    pub all : (left : ℕ) (contexts : List ContextReport) → length (flat_map items contexts) ≤ left → shares items left contexts ≡ map (λ context. (context, items context)) contexts
    all left [] h = refl
    all left (context ∷ contexts) h =
        ap₂ (λ its others. (context, its) ∷ others) (take_all left (items context) (omega (arith, h, length-append (items context) (flat_map items contexts))))
        (all (left - length (items context)) contexts (omega (arith, h, length-append (items context) (flat_map items contexts))))
