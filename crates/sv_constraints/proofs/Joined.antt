-- Lists joined from parts.
use Rattle.std.proofs.Common.{◌≡◌, ℕ, ◌+◌, ◌<◌, Bool, ◌||◌, List, [], ◌∷◌, ◌++◌, length, take, get_or, refl, ap, sym, ◌∙◌}
use Rattle.std.specs.List.{list_any, flat_map}
use Rattle.std.proofs.lemmas.List.{flat_map_more, take_more}
use Rattle.std.proofs.lemmas.List.Folds.{list_any-append}

-- The joined list has an item that passes the test exactly if one of the parts has.
pub any_of_joined : {X A : Type 0} (test : A → Bool) (f : X → List A) (xs : List X) → list_any test (flat_map f xs) ≡ list_any (λ x. list_any test (f x)) xs
any_of_joined test f [] = refl
any_of_joined test f (x ∷ xs) =
    list_any-append test (f x) (flat_map f xs) ∙ ap (λ found. list_any test (f x) || found) (any_of_joined test f xs)

-- The joined list after one more part.
pub joined_more : {X A : Type 0} (f : X → List A) (before part : List A) (xs : List X) (i : ℕ) (x : X) → i < length xs → x ≡ get_or xs i x → part ≡ f x → (before ++ flat_map f (take i xs)) ++ part ≡ before ++ flat_map f (take (i + 1) xs)
joined_more f before part xs i x within at_i is_part =
    ap (λ last. (before ++ flat_map f (take i xs)) ++ last) is_part
    ∙ flat_map_more f before (take i xs) x
    ∙ ap (λ last. before ++ flat_map f (take i xs ++ last ∷ [])) at_i
    ∙ ap (λ ys. before ++ flat_map f ys) (sym (take_more xs i x within))
