-- Filters of mapped and filtered lists, and lists of which no item passes.
use Rattle.std.proofs.lemmas.Bool.{or_parts}
use Rattle.std.proofs.lemmas.List.Elements.{All-cons, All-nil}
use Rattle.std.proofs.Common.{◌≡◌, Bool, true, false, ◌&&◌, List, [], ◌∷◌, map, refl, ap, sym, ◌∙◌, cond}
use Rattle.std.specs.Prelude.{All, filter}
use Rattle.std.specs.List.{list_any}

map_cond : {A B : Type 0} (f : A → B) (b : Bool) (x : A) (xs : List A) (ys : List B) → map f xs ≡ ys → map f (cond b (x ∷ xs) xs) ≡ cond b (f x ∷ ys) ys
map_cond f true x xs ys is = ap (λ rest. f x ∷ rest) is
map_cond f false x xs ys is = is

-- A filter of a mapped list.
pub filter_map : {A B : Type 0} (f : A → B) (test : B → Bool) (xs : List A) → filter test (map f xs) ≡ map f (filter (λ x. test (f x)) xs)
filter_map f test [] = refl
filter_map f test (x ∷ xs) =
    ap (λ rest. cond (test (f x)) (f x ∷ rest) rest) (filter_map f test xs) ∙ sym (map_cond f (test (f x)) x (filter (λ y. test (f y)) xs) (map f (filter (λ y. test (f y)) xs)) refl)

pub map_twice : {A B C : Type 0} (f : A → B) (g : B → C) (xs : List A) → map g (map f xs) ≡ map (λ x. g (f x)) xs
map_twice f g [] = refl
map_twice f g (x ∷ xs) = ap (λ rest. g (f x) ∷ rest) (map_twice f g xs)

pub map_self : {A : Type 0} (xs : List A) → map (λ x. x) xs ≡ xs
map_self [] = refl
map_self (x ∷ xs) = ap (λ rest. x ∷ rest) (map_self xs)

pub filter_none : {A : Type 0} (test : A → Bool) (xs : List A) → ((x : A) → test x ≡ false) → filter test xs ≡ []
filter_none test [] never = refl
filter_none test (x ∷ xs) never = ap (λ b. cond b (x ∷ filter test xs) (filter test xs)) (never x) ∙ filter_none test xs never

filter_cond : {A : Type 0} (test : A → Bool) (b : Bool) (x : A) (xs : List A) → filter test (cond b (x ∷ xs) xs) ≡ cond (b && test x) (x ∷ filter test xs) (filter test xs)
filter_cond test true x xs = refl
filter_cond test false x xs = refl

-- A filter of a filtered list.
pub filter_twice : {A : Type 0} (p q : A → Bool) (xs : List A) → filter p (filter q xs) ≡ filter (λ x. q x && p x) xs
filter_twice p q [] = refl
filter_twice p q (x ∷ xs) = filter_cond p (q x) x (filter q xs) ∙ ap (λ rest. cond (q x && p x) (x ∷ rest) rest) (filter_twice p q xs)

-- If no item passes, each fails.
pub all_fail : {A : Type 0} (test : A → Bool) (xs : List A) → list_any test xs ≡ false → All (λ x. test x ≡ false) xs
all_fail test [] none = All-nil (λ x. test x ≡ false)
all_fail test (x ∷ xs) none =
    All-cons (λ y. test y ≡ false) x xs ((or_parts (test x) (list_any test xs) none).0) (all_fail test xs ((or_parts (test x) (list_any test xs) none).1))
