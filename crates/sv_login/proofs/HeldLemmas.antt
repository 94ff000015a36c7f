-- The first result of a function over the fields, and over the pieces of a field.
use Rattle.std.proofs.Common.{◌≡◌, ℕ, zero, suc, ◌+◌, ◌<◌, true, false, inl, inr, List, [], ◌∷◌, ◌++◌, length, drop, get_or, Option, Some, None, refl, sym, ◌∙◌, ap, subst, arith}
use Rattle.std.specs.List.{fold, cons_option, filter_map}
use Rattle.std.specs.Option.{option_or, option_and_then}
use Rattle.std.specs.Prelude.{codes}
use Rattle.std.proofs.lemmas.Bool.{cases_Bool}
use Rattle.sv_message.specs.Fields.{is_named}
use Rattle.sv_message.specs.declared.field.Field.{Field}
use Rattle.sv_session.specs.Store.{Store, number_of}
use Rattle.sv_login.specs.Cookies.{cookie_values, values_in}
use Rattle.sv_login.specs.Held.{first_given, held}

or_or : {B : Type 0} (a b c : Option B) → option_or (option_or a b) c ≡ option_or a (option_or b c)
or_or None b c = refl
or_or (Some x) b c = refl

first_both : {A B : Type 0} (give : A → Option B) (xs ys : List A) → first_given give (xs ++ ys) ≡ option_or (first_given give xs) (first_given give ys)
first_both give [] ys = refl
first_both give (x ∷ xs) ys = ap (option_or (give x)) (first_both give xs ys) ∙ sym (or_or (give x) (first_given give xs) (first_given give ys))

or_none : {B : Type 0} (a : Option B) → option_or a None ≡ a
or_none None = refl
or_none (Some x) = refl

-- A fold that keeps the first result returns it.
pub first_by_fold : {A C B : Type 0} (give : C → Option B) (read : A → Option C) (found : Option B) (xs : List A)
    → fold (λ before x. option_or before (option_and_then give (read x))) found xs ≡ option_or found (first_given give (filter_map read xs))
first_by_fold give read found [] = sym (or_none found)
first_by_fold {C = C} give read found (x ∷ xs) = by_case (read x) (first_by_fold give read (option_or found (option_and_then give (read x))) xs) where
  by_case : (c : Option C) → fold (λ before x. option_or before (option_and_then give (read x))) (option_or found (option_and_then give c)) xs
      ≡ option_or (option_or found (option_and_then give c)) (first_given give (filter_map read xs))
      → fold (λ before x. option_or before (option_and_then give (read x))) (option_or found (option_and_then give c)) xs
      ≡ option_or found (first_given give (cons_option c (filter_map read xs)))
  by_case None rest = rest ∙ or_or found None (first_given give (filter_map read xs))
  by_case (Some y) rest = rest ∙ or_or found (give y) (first_given give (filter_map read xs))

-- The session of a list of fields is that of the first field, or otherwise that of the others.
module _ (name : List ℕ) (store : Store) where
  pub held_one : (field : Field) → is_named (codes "cookie") field ≡ true → held name (field ∷ []) store ≡ first_given (λ value. number_of value store) (values_in name field.value.bytes)
  held_one field named = rw named (first_both (λ value. number_of value store) (values_in name field.value.bytes) [] ∙ or_none (first_given (λ value. number_of value store) (values_in name field.value.bytes)))

  pub held_none : (field : Field) → is_named (codes "cookie") field ≡ false → held name (field ∷ []) store ≡ None
  held_none field other = rw other refl

  pub held_cons : (field : Field) (fields : List Field) → held name (field ∷ fields) store ≡ option_or (held name (field ∷ []) store) (held name fields store)
  held_cons field fields = elim (cases_Bool (is_named (codes "cookie") field)) [
    | inl named ↦ rw named (first_both (λ value. number_of value store) (values_in name field.value.bytes) (cookie_values name fields)
        ∙ ap (λ (a : Option ℕ). option_or a (held name fields store)) (sym (first_both (λ value. number_of value store) (values_in name field.value.bytes) [] ∙ or_none (first_given (λ value. number_of value store) (values_in name field.value.bytes)))))
    | inr other ↦ rw other refl
  ]

  -- The session of the fields from an index on.
  held_at : (fields : List Field) (i : ℕ) (field : Field) → i < length fields → field ≡ get_or fields i field
      → held name (drop i fields) store ≡ option_or (held name (field ∷ []) store) (held name (drop (suc i) fields) store)
  held_at [] i field inside at = absurd (omega arith)
  held_at (x ∷ xs) zero field inside at =
      subst (λ f. held name (x ∷ xs) store ≡ option_or (held name (f ∷ []) store) (held name xs store)) (sym at) (held_cons x xs)
  held_at (x ∷ xs) (suc i) field inside at = held_at xs i field (omega (arith, inside)) at

  module _ (fields : List Field) (i : ℕ) (field : Field) (inside : i < length fields) (at : field ≡ get_or fields i field)
      (all : held name (drop i fields) store ≡ held name fields store) where
    both : option_or (held name (field ∷ []) store) (held name (drop (suc i) fields) store) ≡ held name fields store
    both = sym (held_at fields i field inside at) ∙ all

    pub held_here : (number : ℕ) → held name (field ∷ []) store ≡ Some number → Some number ≡ held name fields store
    held_here number here = sym (ap (λ (h : Option ℕ). option_or h (held name (drop (suc i) fields) store)) here) ∙ both

    pub held_later : held name (field ∷ []) store ≡ None → held name (drop (i + 1) fields) store ≡ held name fields store
    held_later here =
        let next : suc i ≡ i + 1 = omega arith in
        subst (λ n. held name (drop n fields) store ≡ held name fields store) next
        (sym (ap (λ (h : Option ℕ). option_or h (held name (drop (suc i) fields) store)) here) ∙ both)
