-- The places of context paths that are added one after another.
use Rattle.std.proofs.Common.{ℕ, ◌≡◌, ◌+◌, ◌<◌, true, false, cond, List, [], ◌∷◌, ◌++◌, length, Option, Some, None, is_some, sym, refl, ap, ◌∙◌, ⊎_elim, arith}
use Rattle.std.specs.Option.{option_or}
use Rattle.std.specs.Str.{bytes_eq}
use Rattle.std.proofs.lemmas.Bool.{cases_Bool, cond-true, cond-false, false_from_ne_true}
use Rattle.std.proofs.lemmas.Slice.Eq.{bytes_eq-Decides}
use Rattle.sv_text.proofs.FirstPlace.{none_is, or_none, position-push}
use Rattle.sv_mapping.specs.ContextIndexPlaces.{place_of}

or_some : {X : Type 0} (o other : Option X) → is_some o ≡ true → option_or o other ≡ o
or_some None other e = cc
or_some (Some x) other e = refl

module _ (paths : List (List ℕ)) (path : List ℕ) where
  apart_more : (wanted : List ℕ) → bytes_eq path wanted ≡ false → place_of (paths ++ path ∷ []) wanted ≡ place_of paths wanted
  apart_more wanted apart =
      position-push (λ p. bytes_eq p wanted) paths path
      ∙ (ap (option_or (place_of paths wanted)) (cond-false _ _ _ apart) ∙ or_none (place_of paths wanted))

  same_path : (wanted : List ℕ) → bytes_eq path wanted ≡ true → path ≡ wanted
  same_path wanted same = (bytes_eq-Decides path wanted).0 same

  -- A path that was added before.
  pub place-again : (wanted : List ℕ) → is_some (place_of paths path) ≡ true → place_of (paths ++ path ∷ []) wanted ≡ place_of paths wanted
  place-again wanted there =
      ⊎_elim
      (λ same.
      position-push (λ p. bytes_eq p wanted) paths path
      ∙ or_some (place_of paths wanted) _ (ap (λ w. is_some (place_of paths w)) (sym (same_path wanted same)) ∙ there))
      (apart_more wanted)
      (cases_Bool (bytes_eq path wanted))

  -- A path that was not.
  pub place-more : (wanted : List ℕ) (place : ℕ) (was now : Option ℕ) → place ≡ length paths → is_some (place_of paths path) ≡ false
      → was ≡ place_of paths wanted → now ≡ cond (bytes_eq path wanted) (Some place) was → now ≡ place_of (paths ++ path ∷ []) wanted
  place-more wanted place was now last new before after =
      ⊎_elim
      (λ same.
      let none : place_of paths wanted ≡ None = none_is _ (ap (λ w. is_some (place_of paths w)) (sym (same_path wanted same)) ∙ new) in
      after ∙ (cond-true _ _ _ same ∙ (ap Some last
      ∙ sym (position-push (λ p. bytes_eq p wanted) paths path ∙ (ap (λ o. option_or o (cond (bytes_eq path wanted) (Some (length paths)) None)) none ∙ cond-true _ _ _ same)))))
      (λ apart. after ∙ (cond-false _ _ _ apart ∙ (before ∙ sym (apart_more wanted apart))))
      (cases_Bool (bytes_eq path wanted))

  -- No path is longer than the longest.
  pub longest-more : (longest : ℕ) → ((wanted : List ℕ) → longest < length wanted → place_of paths wanted ≡ None)
      → (wanted : List ℕ) → longest < length wanted → length path < length wanted → place_of (paths ++ path ∷ []) wanted ≡ None
  longest-more longest before wanted over longer =
      apart_more wanted (false_from_ne_true _ (λ same. absurd (omega (arith, longer, ap length (same_path wanted same))))) ∙ before wanted over
