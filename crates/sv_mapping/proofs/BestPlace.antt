-- The place of the best match is the least place of its text.
use Rattle.std.proofs.Common.{◌≡◌, ℕ, ◌+◌, Bool, true, List, [], ◌∷◌, refl, sym, ◌∙◌, ap, arith, Option, Some, None, inl, inr}
use Rattle.std.specs.List.{Contains, find, position, position_from}
use Rattle.std.specs.Option.{option_and_then}
use Rattle.std.specs.Str.{bytes_eq}
use Rattle.std.proofs.lemmas.Bool.{and_parts, both_ways, cases_Bool, false_from_ne_true}
use Rattle.std.proofs.lemmas.Iterator.Adapters.{position_from-zero}
use Rattle.std.proofs.lemmas.List.Elements.{Contains-append_right}
use Rattle.std.proofs.lemmas.Slice.Eq.{bytes_eq-Decides}
use Rattle.sv_mapping.specs.BestMatch.{best, best_pattern, is_best}
use Rattle.sv_mapping.specs.Pattern.{matches}
use Rattle.sv_mapping.proofs.BestMatches.{unbeaten_by_member}
use Rattle.sv_mapping.proofs.FirstBest.{found_in, found_passes}
use Rattle.sv_mapping.proofs.Texts.{same_bytes}
use Rattle.sv_mapping.proofs.Tried.{In}
use Rattle.sv_mapping.proofs.Uniqueness.{same_text}

-- ---- the first place at which a test passes
module _ {X : Type 0} (t : X → Bool) where
  from_unfound : (i : ℕ) (xs : List X) → find t xs ≡ None → position_from t i xs ≡ None
  from_unfound i [] h = refl
  from_unfound i (x ∷ xs) h = elim (cases_Bool (t x)) [ inl e ↦ let lost : Some x ≡ None = rw e at h in cc | inr e ↦ rw e (from_unfound (i + 1) xs (rw e at h)) ]

  from_same : (u : X → Bool) (i : ℕ) (xs : List X) → ((x : X) → In x xs → t x ≡ u x) → position_from t i xs ≡ position_from u i xs
  from_same u i [] same = refl
  from_same u i (x ∷ xs) same = rw (same x (inl refl), from_same u (i + 1) xs (λ y k. same y (inr k))) refl

In-Contains : {X : Type 0} (x : X) (xs : List X) → In x xs → Contains xs x
In-Contains x [] h = absurd h
In-Contains x (y ∷ ys) (inl e) = (0, omega arith, sym e)
In-Contains x (y ∷ ys) (inr h) = Contains-append_right (y ∷ []) ys x (In-Contains x ys h)

pub best_place : (patterns : List (List ℕ)) (path : List ℕ) → best patterns path ≡ option_and_then (λ text. position (λ pattern. bytes_eq pattern text) patterns) (best_pattern patterns path)
best_place patterns path = go (best_pattern patterns path) refl
  where
    matched : (a : List ℕ) → is_best patterns path a ≡ true → matches a path ≡ true
    matched a h = (and_parts (matches a path) _ h).0

    one_best : (a b : List ℕ) → In a patterns → Contains patterns b → is_best patterns path a ≡ true → is_best patterns path b ≡ true → a ≡ b
    one_best a b in_a in_b h k =
        same_text a b path (matched a h) (matched b k)
        (unbeaten_by_member patterns path b a k (In-Contains a patterns in_a) (matched a h))
        (unbeaten_by_member patterns path a b h in_b (matched b k))

    go : (held : Option (List ℕ)) → best_pattern patterns path ≡ held → best patterns path ≡ option_and_then (λ text. position (λ pattern. bytes_eq pattern text) patterns) held
    go None e = position_from-zero _ patterns ∙ from_unfound (is_best patterns path) 0 patterns e
    go (Some b) e =
        let tops = found_passes (is_best patterns path) patterns b e in
        let member = found_in (is_best patterns path) patterns b e in
        position_from-zero _ patterns ∙ (from_same (is_best patterns path) (λ p. bytes_eq p b) 0 patterns (λ a in_a. elim (cases_Bool (is_best patterns path a)) [
          | inl h ↦ h ∙ sym ((bytes_eq-Decides a b).1 (one_best a b in_a member h tops))
          | inr h ↦ h ∙ sym (false_from_ne_true _ (λ same. both_ways _ h (ap (is_best patterns path) (same_bytes a b same) ∙ tops)))
        ]) ∙ sym (position_from-zero _ patterns))
