-- The context at the chosen index.
use Rattle.std.proofs.Common.{◌≡◌, ℕ, ◌<◌, Bool, true, false, List, [], ◌∷◌, length, map, ltb, refl, sym, ◌∙◌, ap, inl, inr, cond, Option, Some, None, IsTrue, IfSome, Bor, get_or}
use Rattle.std.specs.Prelude.{is_some}
use Rattle.std.specs.List.{find, position, position_or_len, slice_get}
use Rattle.std.specs.Option.{option_and_then, option_copied, option_map}
use Rattle.std.proofs.lemmas.Bool.{both_ways, cases_Bool, lt-ltb, ltb-false}
use Rattle.std.proofs.lemmas.List.Folds.{find_at}
use Rattle.std.proofs.lemmas.Option.{slice_get-get_or, slice_get_past}
use Rattle.sv_mapping.specs.Chosen.{is_chosen}
use Rattle.sv_mapping.specs.Pattern.{is_at_or_below}
use Rattle.sv_policy.specs.Context.{context_of, context_paths, policy}
use Rattle.sv_policy.specs.declared.explained_context.ContextPolicy.{ContextPolicy}
use Rattle.sv_policy.specs.Compiled.{Standing}
use Rattle.sv_realm.specs.declared.account.User.{User}

at_place : {X : Type 0} (t : X → Bool) (xs : List X) → option_and_then (λ i. slice_get xs i) (position t xs) ≡ find t xs
at_place t xs =
    elim (cases_Bool (ltb (position_or_len t xs) (length xs))) [ inl e ↦ rw e (sym (find_at t xs)) | inr e ↦ rw e (sym (find_at t xs ∙ slice_get_past xs _ (ltb-false _ _ e))) ]

-- Mapping the result of a search is the same as searching the mapped list.
found_mapped : {X Y : Type 0} (f : X → Y) (t : Y → Bool) (xs : List X) → option_map f (find (λ x. t (f x)) xs) ≡ find t (map f xs)
found_mapped f t [] = refl
found_mapped f t (x ∷ xs) = by_test (t (f x)) (find (λ y. t (f y)) xs) (find t (map f xs)) (found_mapped f t xs)
  where
    by_test : (b : Bool) (others : Option _) (mapped : Option _) → option_map f others ≡ mapped
        → option_map f (cond b (Some x) others) ≡ cond b (Some (f x)) mapped
    by_test true others mapped same = refl
    by_test false others mapped same = same

-- The index of the chosen context among mapped contexts.
module _ {X : Type 0} (path_of : X → List ℕ) (standing_of : X → Standing) (users_of : X → List User) where
  abbrev policy_of : X → ContextPolicy
  policy_of context = policy (path_of context) (standing_of context) (users_of context)

  paths_same : (contexts : List X) → map path_of contexts ≡ context_paths (map policy_of contexts)
  paths_same [] = refl
  paths_same (context ∷ contexts) = ap (λ paths. path_of context ∷ paths) (paths_same contexts)

  pub found_by_place : (contexts : List X) (path : List ℕ) (place : Option ℕ)
      → place ≡ position (λ context. is_chosen (map path_of contexts) path (path_of context)) contexts
      → option_map policy_of (option_and_then (λ i. slice_get contexts i) place) ≡ context_of (map policy_of contexts) path
  found_by_place contexts path place at =
      ap (option_map policy_of)
      (ap (option_and_then (λ i. slice_get contexts i)) at ∙ at_place (λ context. is_chosen (map path_of contexts) path (path_of context)) contexts)
      ∙ found_mapped policy_of (λ context. is_chosen (map path_of contexts) path context.path) contexts
      ∙ ap (λ paths. find (λ context. is_chosen paths path context.path) (map policy_of contexts)) (paths_same contexts)

  pub serves_by_place : (contexts : List X) (path : List ℕ) (place : ℕ) (got : Option (Bor X)) → option_copied got ≡ slice_get contexts place
      → ((context : X) → slice_get contexts place ≡ Some context → IsTrue (is_at_or_below (path_of context) path))
      → IfSome got (λ context. IsTrue (is_at_or_below (path_of context.now) path))
  serves_by_place contexts path place None same serves = tt
  serves_by_place contexts path place (Some context) same serves = serves context.now (sym same)

-- The context at an index within the list.
pub got : {X : Type 0} (contexts : List X) (place : ℕ) (found : Option (Bor X)) → place < length contexts
    → is_some found ≡ ltb place (length contexts) → IfSome found (λ context. context.now ≡ get_or contexts place context.now)
    → option_copied found ≡ slice_get contexts place
got contexts place None within some is = absurd (both_ways _ (sym some) (lt-ltb _ _ within))
got contexts place (Some context) within some is = ap Some is ∙ sym (slice_get-get_or contexts place context.now within)

-- Rebuilding contexts from their parts gives the same contexts.
pub policies_same : (contexts : List ContextPolicy) → map (λ context. policy context.path context.policy context.realm) contexts ≡ contexts
policies_same [] = refl
policies_same (context ∷ contexts) = ap (λ others. context ∷ others) (policies_same contexts)
