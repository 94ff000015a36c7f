-- The first place of a list at which a test passes.
use Rattle.std.proofs.Common.{ℕ, ◌≡◌, ◌+◌, Bool, false, cond, List, [], ◌∷◌, ◌++◌, length, Option, Some, None, is_some, add-zero, zero-add, sym, refl, ap, ◌∙◌, ⊎_elim, arith}
use Rattle.std.specs.List.{list_any, position, position_from}
use Rattle.std.specs.Option.{option_or}
use Rattle.std.proofs.lemmas.Bool.{cases_Bool, cond-false}
use Rattle.std.proofs.lemmas.Iterator.Adapters.{position_from-zero}

module _ {X : Type 0} (t : X → Bool) where
  from_push : (i : ℕ) (xs : List X) (x : X) → position_from t i (xs ++ x ∷ []) ≡ option_or (position_from t i xs) (cond (t x) (Some (i + length xs)) None)
  from_push i [] x = rw add-zero refl
  from_push i (y ∷ ys) x =
      ⊎_elim
      (λ e. rw e refl)
      (λ e.
      let further : i + 1 + length ys ≡ i + length (y ∷ ys) = omega arith in
      cond-false _ _ _ e ∙ (from_push (i + 1) ys x
      ∙ (ap (λ n. option_or (position_from t (i + 1) ys) (cond (t x) (Some n) None)) further
      ∙ ap (λ o. option_or o (cond (t x) (Some (i + length (y ∷ ys))) None)) (sym (cond-false _ _ _ e)))))
      (cases_Bool (t y))

  from_some : (i : ℕ) (xs : List X) → is_some (position_from t i xs) ≡ list_any t xs
  from_some i [] = refl
  from_some i (x ∷ xs) = ⊎_elim (λ e. rw e refl) (λ e. rw e (from_some (i + 1) xs)) (cases_Bool (t x))

  -- The first place after an item was appended.
  pub position-push : (xs : List X) (x : X) → position t (xs ++ x ∷ []) ≡ option_or (position t xs) (cond (t x) (Some (length xs)) None)
  position-push xs x =
      position_from-zero t (xs ++ x ∷ []) ∙ (from_push 0 xs x
      ∙ (ap (λ n. option_or (position_from t 0 xs) (cond (t x) (Some n) None)) (zero-add (length xs))
      ∙ ap (λ o. option_or o (cond (t x) (Some (length xs)) None)) (sym (position_from-zero t xs))))

  -- A place is found exactly if some item passes.
  pub position_some : (xs : List X) → is_some (position t xs) ≡ list_any t xs
  position_some xs = ap is_some (position_from-zero t xs) ∙ from_some 0 xs

pub none_is : {X : Type 0} (o : Option X) → is_some o ≡ false → o ≡ None
none_is None e = refl
none_is (Some x) e = cc

pub or_none : {X : Type 0} (o : Option X) → option_or o None ≡ o
or_none None = refl
or_none (Some x) = refl
