-- A list that a loop builds from the parts of each item of another list.
use Rattle.std.proofs.Common.{◌≡◌, ℕ, ◌+◌, ◌<◌, ◌≤◌, List, [], ◌∷◌, ◌++◌, map, length, take, take_all, get_or, ap, sym, refl, ◌∙◌}
use Rattle.std.specs.List.{flat_map}
use Rattle.std.proofs.lemmas.List.{flat_map_more, take_more}

-- one more item
pub has-more : {X A : Type 0} (f : X → List A) (before so_far more : List A) (xs : List X) (i : ℕ) (x : X) → i < length xs → x ≡ get_or xs i x
    → so_far ≡ before ++ flat_map f (take i xs) → more ≡ so_far ++ f x → more ≡ before ++ flat_map f (take (i + 1) xs)
has-more f before so_far more xs i x within at_i is step =
    step ∙ ap (λ left. left ++ f x) is
    ∙ flat_map_more f before (take i xs) x
    ∙ ap (λ last. before ++ flat_map f (take i xs ++ last ∷ [])) at_i
    ∙ ap (λ ys. before ++ flat_map f ys) (sym (take_more xs i x within))

flat_map-map : {X Y A : Type 0} (f : Y → List A) (seen : X → Y) (xs : List X) → flat_map f (map seen xs) ≡ flat_map (λ x. f (seen x)) xs
flat_map-map f seen [] = refl
flat_map-map f seen (x ∷ xs) = ap (λ rest. f (seen x) ++ rest) (flat_map-map f seen xs)

-- one more item, through a view
pub has-more-seen : {X Y A : Type 0} (f : Y → List A) (seen : X → Y) (before so_far more : List A) (xs : List X) (i : ℕ) (x : X) → i < length xs → x ≡ get_or xs i x
    → so_far ≡ before ++ flat_map f (map seen (take i xs)) → more ≡ so_far ++ f (seen x) → more ≡ before ++ flat_map f (map seen (take (i + 1) xs))
has-more-seen f seen before so_far more xs i x within at_i is step =
    has-more (λ x. f (seen x)) before so_far more xs i x within at_i (is ∙ ap (λ parts. before ++ parts) (flat_map-map f seen (take i xs))) step
    ∙ ap (λ parts. before ++ parts) (sym (flat_map-map f seen (take (i + 1) xs)))

-- all items, after the loop
pub has-all : {X A : Type 0} (parts : List X → List A) (so_far : List A) (xs : List X) (i : ℕ) → so_far ≡ parts (take i xs) → length xs ≤ i → so_far ≡ parts xs
has-all parts so_far xs i is through = is ∙ ap parts (take_all i xs through)
