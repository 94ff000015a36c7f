-- The best match depends only on the patterns that match.
use Rattle.std.proofs.Common.{◌≡◌, ℕ, Bool, true, not, ◌&&◌, ◌||◌, List, [], ◌∷◌, refl, ap, ap₂, cond, Some}
use Rattle.std.specs.List.{find, list_any}
use Rattle.std.proofs.lemmas.Bool.{or_right}
use Rattle.std.proofs.lemmas.Slice.Eq.{bytes_eq-Decides}
use Rattle.sv_mapping.specs.BestMatch.{best_pattern, is_best, outranks}
use Rattle.sv_mapping.specs.Pattern.{matches}
use Rattle.sv_constraints.specs.Covering.{lists}

pub listed_first : (x : List ℕ) (xs : List (List ℕ)) → lists (x ∷ xs) x ≡ true
listed_first x xs = ap (λ b. b || lists xs x) ((bytes_eq-Decides x x).1 refl)

pub listed_later : (x y : List ℕ) (xs : List (List ℕ)) → lists xs y ≡ true → lists (x ∷ xs) y ≡ true
listed_later x y xs there = or_right _ _ there

any_same_on : (f g : List ℕ → Bool) (xs : List (List ℕ)) → ((x : List ℕ) → lists xs x ≡ true → f x ≡ g x) → list_any f xs ≡ list_any g xs
any_same_on f g [] same = refl
any_same_on f g (x ∷ xs) same = ap₂ (λ a b. a || b) (same x (listed_first x xs)) (any_same_on f g xs (λ y there. same y (listed_later x y xs there)))

find_same_on : (f g : List ℕ → Bool) (xs : List (List ℕ)) → ((x : List ℕ) → lists xs x ≡ true → f x ≡ g x) → find f xs ≡ find g xs
find_same_on f g [] same = refl
find_same_on f g (x ∷ xs) same = ap₂ (λ a b. cond a (Some x) b) (same x (listed_first x xs)) (find_same_on f g xs (λ y there. same y (listed_later x y xs there)))

pub same_best : (patterns : List (List ℕ)) (path other : List ℕ) → ((x : List ℕ) → lists patterns x ≡ true → matches x path ≡ matches x other) → best_pattern patterns path ≡ best_pattern patterns other
same_best patterns path other same =
    find_same_on (is_best patterns path) (is_best patterns other) patterns
    (λ x there.
    ap₂ (λ a b. a && not b) (same x there)
    (any_same_on (λ o. matches o path && outranks o x) (λ o. matches o other && outranks o x) patterns (λ o here. ap (λ a. a && outranks o x) (same o here))))
