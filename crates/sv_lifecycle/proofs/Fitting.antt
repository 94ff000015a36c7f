-- Comparing names with the declared ones, one after another.
use Rattle.std.proofs.Common.{◌≡◌, ℕ, ◌+◌, ◌<◌, Bool, true, false, not, List, [], ◌∷◌, ◌++◌, length, get_or, map, take, refl, sym, ◌∙◌, ap, ap₂}
use Rattle.std.specs.Str.{bytes_eq}
use Rattle.std.proofs.lemmas.List.{get_or-map, length-map, map_more}
use Rattle.std.proofs.lemmas.Slice.Eq.{bytes_eq-Decides}

-- Lists with the same texts have the same length.
pub same_length : {X Y Z : Type 0} (f : X → Z) (h : Y → Z) (xs : List X) (ys : List Y) → map f xs ≡ map h ys → length xs ≡ length ys
same_length f h xs ys same = sym (length-map xs f) ∙ ap length same ∙ length-map ys h

-- They also have the same text at each index.
pub same_at : {X Y Z : Type 0} (f : X → Z) (h : Y → Z) (xs : List X) (ys : List Y) (place : ℕ) (x : X) (y : Y)
    → place < length xs → place < length ys → x ≡ get_or xs place x → y ≡ get_or ys place y → map f xs ≡ map h ys → f x ≡ h y
same_at f h xs ys place x y in_xs in_ys is_x is_y same =
    ap f is_x ∙ sym (get_or-map f xs place x (f x) in_xs) ∙ ap (λ zs. get_or zs place (f x)) same ∙ get_or-map h ys place y (f x) in_ys ∙ ap h (sym is_y)

-- A test of two texts, and its meaning.
not_true : (test : Bool) → test ≡ true → not test ≡ true → ⊥
not_true true is_true is_false = absurd (cc)
not_true false is_true is_false = absurd (cc)

not_false : (test : Bool) → not test ≡ false → test ≡ true
not_false true is_false = refl
not_false false is_false = absurd (cc)

pub texts_differ : (xs ys : List ℕ) → not (bytes_eq xs ys) ≡ true → xs ≡ ys → ⊥
texts_differ xs ys differ same = not_true (bytes_eq xs ys) ((bytes_eq-Decides xs ys).1 same) differ

pub texts_equal : (xs ys : List ℕ) → not (bytes_eq xs ys) ≡ false → xs ≡ ys
texts_equal xs ys equal = (bytes_eq-Decides xs ys).0 (not_false (bytes_eq xs ys) equal)

-- One more name.
pub names_more : {X Y : Type 0} (f : X → List ℕ) (h : Y → List ℕ) (xs : List X) (ys : List Y) (place : ℕ) (x : X) (y : Y)
    → place < length xs → place < length ys → x ≡ get_or xs place x → y ≡ get_or ys place y → f x ≡ h y
    → map f (take place xs) ≡ map h (take place ys) → map f (take (place + 1) xs) ≡ map h (take (place + 1) ys)
names_more f h xs ys place x y in_xs in_ys is_x is_y same so_far =
    map_more f xs place x in_xs
    ∙ ap₂ (λ all one. all ++ one ∷ []) so_far (ap f (sym is_x) ∙ same ∙ ap h is_y)
    ∙ sym (map_more h ys place y in_ys)
