-- The first parameter with a name in two concatenated lists.
use Rattle.std.proofs.Common.{◌≡◌, ℕ, List, ◌++◌, Option, None, Some, refl, ◌∙◌, ap}
use Rattle.std.specs.Prelude.{bytes_eq, find}
use Rattle.std.specs.Option.{option_map, option_or}
use Rattle.std.proofs.lemmas.List.Folds.{find-append}
use Rattle.sv_message.specs.Parameters.{first_named}

value_of_either : (one other : Option (List ℕ × List ℕ))
    → option_map (λ (pair : List ℕ × List ℕ). pair.1) (option_or one other) ≡ option_or (option_map (λ pair. pair.1) one) (option_map (λ pair. pair.1) other)
value_of_either None other = refl
value_of_either (Some pair) other = refl

module _ (name : List ℕ) (xs ys : List (List ℕ × List ℕ)) where
  first_joined : first_named name (xs ++ ys) ≡ option_or (first_named name xs) (first_named name ys)
  first_joined = ap (option_map (λ pair. pair.1)) (find-append (λ pair. bytes_eq pair.0 name) xs ys) ∙ value_of_either (find (λ pair. bytes_eq pair.0 name) xs) (find (λ pair. bytes_eq pair.0 name) ys)

  pub first_in_front : (value : List ℕ) → first_named name xs ≡ Some value → first_named name (xs ++ ys) ≡ Some value
  first_in_front value found = first_joined ∙ ap (λ found. option_or found (first_named name ys)) found

  pub first_behind : first_named name xs ≡ None → first_named name (xs ++ ys) ≡ first_named name ys
  first_behind missed = first_joined ∙ ap (λ found. option_or found (first_named name ys)) missed
