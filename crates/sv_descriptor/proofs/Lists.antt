-- Lists read item by item.
use Rattle.std.proofs.Common.{◌≡◌, ℕ, ◌+◌, suc, ◌<◌, Bool, true, false, cond, arith, List, [], ◌∷◌, length, map, drop, get_or, drop-cons, add-one, refl, sym, ap, ◌∙◌}
use Rattle.std.specs.Prelude.{◌||◌, ◌&&◌, not, is_none, nat_lt, Some, None}
use Rattle.std.specs.List.{list_all, list_any, position, position_or_len}
use Rattle.std.proofs.lemmas.Bool.Decides.{nat_tests}
use Rattle.toml.specs.View.{view, items_view}
use Rattle.toml.specs.declared.value.Value.{Value}
use Rattle.sv_descriptor.specs.ListOf.{items_list}

pub list_any-map : {X Y : Type 0} (p : Y → Bool) (f : X → Y) (xs : List X) → list_any p (map f xs) ≡ list_any (λ x. p (f x)) xs
list_any-map p f [] = refl
list_any-map p f (x ∷ xs) = ap (λ b. p (f x) || b) (list_any-map p f xs)

pub items_list-items_view : (values : List Value) → items_list (items_view values) ≡ map view values
items_list-items_view [] = refl
items_list-items_view (v ∷ values) = ap (λ rest. view v ∷ rest) (items_list-items_view values)

pub drop-here : {X : Type 0} (xs : List X) (i : ℕ) (x : X) → i < length xs → x ≡ get_or xs i x → drop i xs ≡ x ∷ drop (i + 1) xs
drop-here xs i x below at =
    drop-cons xs i x below ∙ ap (λ y. y ∷ drop (suc i) xs) (sym at) ∙ ap (λ k. x ∷ drop k xs) (sym (add-one i))

-- All items pass if none is the first that does not.
module _ {X : Type 0} (p : X → Bool) where
  first-below : (b rest : Bool) (n l : ℕ) → nat_lt n l ≡ not rest → nat_lt (cond (not (not b)) (1 + n) 0) (suc l) ≡ not (b && rest)
  first-below true true n l h = grind (arith, nat_tests)
  first-below true false n l h = grind (arith, nat_tests)
  first-below false rest n l h = grind (arith, nat_tests)

  all-below : (xs : List X) → nat_lt (position_or_len (λ x. not (p x)) xs) (length xs) ≡ not (list_all p xs)
  all-below [] = refl
  all-below (x ∷ xs) = first-below (p x) (list_all p xs) (position_or_len (λ x. not (p x)) xs) (length xs) (all-below xs)

  is_none-cond : (b : Bool) (n : ℕ) → is_none (cond (not b) (Some n) None) ≡ b
  is_none-cond true n = refl
  is_none-cond false n = refl

  pub list_all_position : (xs : List X) → list_all p xs ≡ is_none (position (λ x. not (p x)) xs)
  list_all_position xs = rw (all-below xs) (sym (is_none-cond (list_all p xs) (position_or_len (λ x. not (p x)) xs)))
