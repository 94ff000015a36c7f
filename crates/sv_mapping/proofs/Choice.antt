-- The choice of a context among others, by the longest context path.
use Rattle.std.proofs.Common.{◌≡◌, ℕ, ◌<◌, ◌+◌, Bool, true, cond, ◌&&◌, ◌||◌, not, List, [], ◌∷◌, length, map, take, get_or, ltb, refl, sym, ◌∙◌, ap, subst, Option, Some, None, IsTrue, IfSome}
use Rattle.std.specs.List.{list_any, position, slice_get}
use Rattle.std.proofs.lemmas.Bool.{and_parts}
use Rattle.std.proofs.lemmas.List.Quantifiers.{position-Some}
use Rattle.std.proofs.lemmas.Option.{get_or_from_slice_get}
use Rattle.std.proofs.lemmas.List.Folds.{list_any_more}
use Rattle.sv_mapping.specs.Pattern.{is_at_or_below}
use Rattle.sv_mapping.specs.Chosen.{is_chosen}
use Rattle.sv_mapping.proofs.Longest.{next_longest}

module _ {C : Type 0} (path_of : C → List ℕ) where
  -- One more context.
  pub longest_more : (contexts : List C) (path : List ℕ) (i : ℕ) (context : C) (longest : ℕ) (taken : Bool)
      → i < length contexts → context ≡ get_or contexts i context → taken ≡ (is_at_or_below (path_of context) path && ltb longest (length (path_of context)))
      → ((len : ℕ) → list_any (λ context. is_at_or_below (path_of context) path && ltb len (length (path_of context))) (take i contexts) ≡ ltb len longest)
      → (len : ℕ) → list_any (λ context. is_at_or_below (path_of context) path && ltb len (length (path_of context))) (take (i + 1) contexts) ≡ ltb len (cond taken (length (path_of context)) longest)
  longest_more contexts path i context longest taken within at takes known len =
      list_any_more (λ context. is_at_or_below (path_of context) path && ltb len (length (path_of context))) contexts i context within
      ∙ rw (known len, ← at, takes) (next_longest len longest (length (path_of context)) (is_at_or_below (path_of context) path))

  list_any-map : {X Y : Type 0} (test : Y → Bool) (f : X → Y) (xs : List X) → list_any test (map f xs) ≡ list_any (λ x. test (f x)) xs
  list_any-map test f [] = refl
  list_any-map test f (x ∷ xs) = ap (λ rest. test (f x) || rest) (list_any-map test f xs)

  -- If `longest` is the length of the longest context path, the test of the code agrees with that of the definition.
  pub place_by_longest : (contexts : List C) (path : List ℕ) (longest : ℕ)
      → ((len : ℕ) → list_any (λ context. is_at_or_below (path_of context) path && ltb len (length (path_of context))) contexts ≡ ltb len longest)
      → position (λ context. is_at_or_below (path_of context) path && not (ltb (length (path_of context)) longest)) contexts
      ≡ position (λ context. is_chosen (map path_of contexts) path (path_of context)) contexts
  place_by_longest contexts path longest known = ap (λ test. position test contexts) (λ i context. same context i)
    where
      longer : (len : ℕ) → list_any (λ other. is_at_or_below other path && ltb len (length other)) (map path_of contexts) ≡ ltb len longest
      longer len = list_any-map _ path_of contexts ∙ known len

      same : (context : C) → (is_at_or_below (path_of context) path && not (ltb (length (path_of context)) longest)) ≡ is_chosen (map path_of contexts) path (path_of context)
      same context = rw (longer (length (path_of context))) refl

  pub place_serves : (contexts : List C) (path : List ℕ) (longest : ℕ) (found : Option ℕ)
      → found ≡ position (λ context. is_at_or_below (path_of context) path && not (ltb (length (path_of context)) longest)) contexts
      → IfSome found (λ place. (context : C) → slice_get contexts place ≡ Some context → IsTrue (is_at_or_below (path_of context) path))
  place_serves contexts path longest None at = tt
  place_serves contexts path longest (Some place) at = λ context there.
      let passes = (position-Some (λ context. is_at_or_below (path_of context) path && not (ltb (length (path_of context)) longest)) contexts place context (sym at)).1 in
      (and_parts _ _ (subst (λ found. (is_at_or_below (path_of found) path && not (ltb (length (path_of found)) longest)) ≡ true) (get_or_from_slice_get contexts place context context there) passes)).0
