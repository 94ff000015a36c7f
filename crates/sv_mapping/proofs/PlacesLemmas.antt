-- The place of the first of several texts that is among the patterns.
use Rattle.std.proofs.Common.{◌≡◌, ℕ, ◌+◌, Bool, true, false, cond, List, [], ◌∷◌, ◌++◌, length, refl, sym, ◌∙◌, ap, arith, add-zero, zero-add, Option, Some, None, inl, inr}
use Rattle.std.specs.List.{find, list_any, position_from}
use Rattle.std.specs.Option.{option_and_then, option_or}
use Rattle.std.specs.Str.{bytes_eq}
use Rattle.std.proofs.lemmas.Bool.{cases_Bool, or_parts}
use Rattle.std.proofs.lemmas.Iterator.Adapters.{position_from-zero}
use Rattle.sv_mapping.specs.BestMatch.{BestStandsFirst, best, best_pattern}
use Rattle.sv_mapping.specs.Places.{first_place, place_of}

-- ---- the first place that passes a test
module _ {X : Type 0} (t : X → Bool) where
  from_none : (i : ℕ) (xs : List X) → list_any t xs ≡ false → position_from t i xs ≡ None
  from_none i [] h = refl
  from_none i (x ∷ xs) h = let parts = or_parts (t x) (list_any t xs) h in rw parts.0 (from_none (i + 1) xs parts.1)

  from_stays : (i : ℕ) (xs : List X) (other : Option ℕ) → list_any t xs ≡ true → option_or (position_from t i xs) other ≡ position_from t i xs
  from_stays i [] other h = cc
  from_stays i (x ∷ xs) other h = elim (cases_Bool (t x)) [ inl e ↦ rw e refl | inr e ↦ rw e (from_stays (i + 1) xs other (rw e at h)) ]

  from_push : (i : ℕ) (xs : List X) (x : X) → position_from t i (xs ++ x ∷ []) ≡ option_or (position_from t i xs) (cond (t x) (Some (i + length xs)) None)
  from_push i [] x = rw add-zero refl
  from_push i (y ∷ ys) x = elim (cases_Bool (t y)) [ inl e ↦ rw e refl | inr e ↦ rw (e, from_push (i + 1) ys x) (ap (λ n. option_or (position_from t (i + 1) ys) (cond (t x) (Some n) None)) (omega arith)) ]

-- One more pattern.
pub place-push : (patterns : List (List ℕ)) (pattern text : List ℕ) → place_of (patterns ++ pattern ∷ []) text ≡ option_or (place_of patterns text) (cond (bytes_eq pattern text) (Some (length patterns)) None)
place-push patterns pattern text =
    position_from-zero _ (patterns ++ pattern ∷ []) ∙ (from_push (λ p. bytes_eq p text) 0 patterns pattern
    ∙ (ap (λ n. option_or (position_from (λ p. bytes_eq p text) 0 patterns) (cond (bytes_eq pattern text) (Some n) None)) (zero-add (length patterns))
    ∙ ap (λ o. option_or o (cond (bytes_eq pattern text) (Some (length patterns)) None)) (sym (position_from-zero _ patterns))))

-- ---- the first place of several texts
-- A text is among the patterns.
abbrev among : List (List ℕ) → List ℕ → Bool
among patterns text = list_any (λ pattern. bytes_eq pattern text) patterns

place_none : (patterns : List (List ℕ)) (text : List ℕ) → among patterns text ≡ false → place_of patterns text ≡ None
place_none patterns text h = position_from-zero _ patterns ∙ from_none (λ p. bytes_eq p text) 0 patterns h

place_stays : (patterns : List (List ℕ)) (text : List ℕ) (other : Option ℕ) → among patterns text ≡ true → option_or (place_of patterns text) other ≡ place_of patterns text
place_stays patterns text other h = rw (position_from-zero (λ p. bytes_eq p text) patterns) (from_stays (λ p. bytes_eq p text) 0 patterns other h)

first_found : (patterns texts : List (List ℕ)) → first_place patterns texts ≡ option_and_then (place_of patterns) (find (among patterns) texts)
first_found patterns [] = refl
first_found patterns (text ∷ texts) =
    elim (cases_Bool (among patterns text)) [
      | inl e ↦ rw e (place_stays patterns text (first_place patterns texts) e)
      | inr e ↦ rw (e, place_none patterns text e) (first_found patterns texts)
    ]

pub first_place-append : (patterns front back : List (List ℕ)) → first_place patterns (front ++ back) ≡ option_or (first_place patterns front) (first_place patterns back)
first_place-append patterns [] back = refl
first_place-append patterns (text ∷ texts) back = or_apart (place_of patterns text) _ _ _ (first_place-append patterns texts back)
  where
    or_apart : (o a b c : Option ℕ) → a ≡ option_or b c → option_or o a ≡ option_or (option_or o b) c
    or_apart None a b c h = h
    or_apart (Some n) a b c h = refl

-- If the best match is the first of several texts that is among the patterns, its place is their first place.
pub placed : BestStandsFirst → (patterns : List (List ℕ)) (path : List ℕ) (texts : List (List ℕ)) → best_pattern patterns path ≡ find (among patterns) texts → best patterns path ≡ first_place patterns texts
placed stands patterns path texts found = stands patterns path ∙ (ap (option_and_then (place_of patterns)) found ∙ sym (first_found patterns texts))
