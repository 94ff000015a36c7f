-- The first cookie of a name, in a list of fields and in the pieces of one field.
use Rattle.std.proofs.Common.{◌≡◌, ℕ, zero, suc, ◌+◌, ◌<◌, true, false, inl, inr, Bool, List, [], ◌∷◌, ◌++◌, length, take, drop, get_or, position, Option, Some, None, refl, sym, ◌∙◌, ap, subst, append-nil, arith}
use Rattle.std.specs.List.{cons_option, filter_map, onto_first, position_or_len, slice_split}
use Rattle.std.specs.Option.{option_or}
use Rattle.std.specs.Prelude.{codes}
use Rattle.std.proofs.lemmas.Bool.{cases_Bool}
use Rattle.std.proofs.lemmas.Grind.{common_steps}
use Rattle.std.proofs.lemmas.List.Splits.{slice_split-cons_no, slice_split_first}
use Rattle.sv_message.specs.Fields.{is_named}
use Rattle.sv_message.specs.declared.field.Field.{Field}
use Rattle.sv_login.specs.Cookies.{cookie_values, values_in}
use Rattle.sv_web.specs.SentCookies.{first, first_cookie}

first_both : {A : Type 0} (xs ys : List A) → first (xs ++ ys) ≡ option_or (first xs) (first ys)
first_both [] ys = refl
first_both (x ∷ xs) ys = refl

-- the fields give the cookie of the first field, or else that of the others
module _ (name : List ℕ) where
  pub sent_one : (field : Field) → is_named (codes "cookie") field ≡ true → first_cookie name (field ∷ []) ≡ first (values_in name field.value.bytes)
  sent_one field named = rw named (ap first (append-nil (values_in name field.value.bytes)))

  pub sent_none : (field : Field) → is_named (codes "cookie") field ≡ false → first_cookie name (field ∷ []) ≡ None
  sent_none field other = rw other refl

  sent_cons : (field : Field) (fields : List Field) → first_cookie name (field ∷ fields) ≡ option_or (first_cookie name (field ∷ [])) (first_cookie name fields)
  sent_cons field fields = elim (cases_Bool (is_named (codes "cookie") field)) [
    | inl named ↦ rw named (first_both (values_in name field.value.bytes) (cookie_values name fields)
        ∙ ap (λ (a : Option (List ℕ)). option_or a (first_cookie name fields)) (sym (ap first (append-nil (values_in name field.value.bytes)))))
    | inr other ↦ rw other refl
  ]

  -- the same for the fields from a position on
  sent_at : (fields : List Field) (i : ℕ) (field : Field) → i < length fields → field ≡ get_or fields i field
      → first_cookie name (drop i fields) ≡ option_or (first_cookie name (field ∷ [])) (first_cookie name (drop (suc i) fields))
  sent_at [] i field inside at = absurd (omega arith)
  sent_at (x ∷ xs) zero field inside at =
      subst (λ f. first_cookie name (x ∷ xs) ≡ option_or (first_cookie name (f ∷ [])) (first_cookie name xs)) (sym at) (sent_cons x xs)
  sent_at (x ∷ xs) (suc i) field inside at = sent_at xs i field (omega (arith, inside)) at

  module _ (fields : List Field) (i : ℕ) (field : Field) (inside : i < length fields) (at : field ≡ get_or fields i field)
      (all : first_cookie name (drop i fields) ≡ first_cookie name fields) where
    both : option_or (first_cookie name (field ∷ [])) (first_cookie name (drop (suc i) fields)) ≡ first_cookie name fields
    both = sym (sent_at fields i field inside at) ∙ all

    pub sent_here : (value : List ℕ) → first_cookie name (field ∷ []) ≡ Some value → Some value ≡ first_cookie name fields
    sent_here value here = sym (ap (λ (h : Option (List ℕ)). option_or h (first_cookie name (drop (suc i) fields))) here) ∙ both

    pub sent_later : first_cookie name (field ∷ []) ≡ None → first_cookie name (drop (i + 1) fields) ≡ first_cookie name fields
    sent_later here =
        let next : suc i ≡ i + 1 = omega arith in
        subst (λ n. first_cookie name (drop n fields) ≡ first_cookie name fields) next
        (sym (ap (λ (h : Option (List ℕ)). option_or h (first_cookie name (drop (suc i) fields))) here) ∙ both)

-- a text is split into the part before the first byte that passes, and the parts of the rest
pub parted : (test : ℕ → Bool) (text : List ℕ) (place : ℕ) → position test text ≡ Some place
    → slice_split test text ≡ take place text ∷ slice_split test (drop (place + 1) text)
parted test text place found =
    let at : position_or_len test text ≡ place = grind (arith, common_steps) in
    let inside : position_or_len test text < length text = grind (arith, common_steps) in
    slice_split_first test text 0 inside ∙ (λ i. take (at i) text ∷ slice_split test (drop (at i + 1) text))

pub unparted : (test : ℕ → Bool) (text : List ℕ) → position test text ≡ None → slice_split test text ≡ text ∷ []
unparted test [] none = refl
unparted test (b ∷ text) none = by (test b) refl (λ later. unparted test text later)
  where
    by : (is : Bool) → test b ≡ is → (position test text ≡ None → slice_split test text ≡ text ∷ []) → slice_split test (b ∷ text) ≡ (b ∷ text) ∷ []
    by true same rest = absurd (grind (arith, common_steps))
    by false same rest =
        let later : position test text ≡ None = grind (arith, common_steps) in
        slice_split-cons_no test b text same ∙ ap (onto_first b) (rest later)

-- the remaining pieces give the cookie of the first piece, or else that of the others
module _ (read : List ℕ → Option (List ℕ)) (front : List ℕ) (left behind : List (List ℕ)) (all : Option (List ℕ)) (cut : left ≡ front ∷ behind)
    (sends : first (filter_map read left) ≡ all) where
  pub found_here : (value : List ℕ) → read front ≡ Some value → Some value ≡ all
  found_here value here =
      sym (ap (λ (r : Option (List ℕ)). first (cons_option r (filter_map read behind))) here)
      ∙ sym (ap (λ (l : List (List ℕ)). first (filter_map read l)) cut) ∙ sends

  pub found_later : read front ≡ None → first (filter_map read behind) ≡ all
  found_later here =
      sym (ap (λ (r : Option (List ℕ)). first (cons_option r (filter_map read behind))) here)
      ∙ sym (ap (λ (l : List (List ℕ)). first (filter_map read l)) cut) ∙ sends
