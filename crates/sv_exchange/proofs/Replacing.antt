-- Replacing the first item of a list that passes a test.
use Rattle.std.proofs.Common.{◌≡◌, ℕ, ◌+◌, ◌<◌, ◌≤◌, ◌⊎◌, inl, inr, Bool, true, false, not, List, [], ◌∷◌, ◌++◌, length, drop, set, None, Some, refl, sym, ◌∙◌, ap, arith}
use Rattle.std.specs.Prelude.{bytes_eq, nat_lt, position}
use Rattle.std.specs.List.{insert, position_or_len}
use Rattle.std.proofs.lemmas.Bool.{cases_Bool, cond-true, cond-false, ltb-true, ltb-false}
use Rattle.std.proofs.lemmas.List.{drop_at, length-append, set_at, take_at}
use Rattle.std.proofs.lemmas.List.Filters.{length-filter_both}
use Rattle.std.proofs.lemmas.Option.{none-some, same_Some}
use Rattle.sv_message.specs.declared.field.Field.{Field}
use Rattle.sv_exchange.specs.declared.attributes.Attribute.{Attribute}
use Rattle.sv_exchange.specs.Attributes.{set_value}
use Rattle.sv_exchange.specs.Fields.{field_of, is_called, set_field, without}

-- No item passes.
pub AllFail : {A : Type 0} → (A → Bool) → List A → Type 0
AllFail test [] = Unit {0}
AllFail test (x ∷ xs) = (test x ≡ false) × AllFail test xs

-- The item at an index is the first that passes.
pub record FirstAt {A : Type 0} (test : A → Bool) (xs : List A) (place : ℕ) : Type 0 where
  pub front : List A
  pub item : A
  pub back : List A
  pub is : xs ≡ front ++ item ∷ back
  pub there : length front ≡ place
  pub passes : test item ≡ true
  pub others : AllFail test front

position_here : {A : Type 0} (test : A → Bool) (x : A) (xs : List A) → test x ≡ true → position_or_len test (x ∷ xs) ≡ 0
position_here test x xs passes = cond-false _ _ _ (ap not passes)

position_later : {A : Type 0} (test : A → Bool) (x : A) (xs : List A) → test x ≡ false → position_or_len test (x ∷ xs) ≡ 1 + position_or_len test xs
position_later test x xs fails = cond-true _ _ _ (ap not fails)

-- The position found is that of the first item that passes, or no item passes.
found : {A : Type 0} (test : A → Bool) (xs : List A) → FirstAt test xs (position_or_len test xs) ⊎ (AllFail test xs × (position_or_len test xs ≡ length xs))
unfolding AllFail
found test [] = inr (tt, refl)
found test (x ∷ xs) = elim (cases_Bool (test x)) [
  | inl passes ↦ inl (record { front = []; item = x; back = xs; is = refl; there = sym (position_here test x xs passes); passes = passes; others = tt })
  | inr fails ↦ elim (found test xs) [
    | inl first ↦ inl (record {
      front = x ∷ first.front;
      item = first.item;
      back = first.back;
      is = ap (λ rest. x ∷ rest) first.is;
      there = omega (arith, first.there, position_later test x xs fails);
      passes = first.passes;
      others = (fails, first.others);
    })
    | inr none ↦ inr ((fails, none.0), omega (arith, none.1, position_later test x xs fails))
  ]
]

within : {A : Type 0} (test : A → Bool) (xs : List A) (place : ℕ) → position test xs ≡ Some place → (position_or_len test xs < length xs) × (place ≡ position_or_len test xs)
within test xs place is = elim (cases_Bool (nat_lt (position_or_len test xs) (length xs))) [
  | inl below ↦ (ltb-true _ _ below, sym (same_Some _ place (sym (cond-true _ _ _ below) ∙ is)))
  | inr outside ↦ absurd (none-some place (sym (cond-false _ _ _ outside) ∙ is))
]

beyond : {A : Type 0} (test : A → Bool) (xs : List A) → position test xs ≡ None → length xs ≤ position_or_len test xs
beyond test xs is = elim (cases_Bool (nat_lt (position_or_len test xs) (length xs))) [
  | inl below ↦ absurd (none-some (position_or_len test xs) (sym is ∙ cond-true _ _ _ below))
  | inr outside ↦ ltb-false _ _ outside
]

pub found_at : {A : Type 0} (test : A → Bool) (xs : List A) (place : ℕ) → position test xs ≡ Some place → FirstAt test xs place
found_at test xs place is = let inside = within test xs place is in
    elim (found test xs) [
      | inl first ↦ record { front = first.front; item = first.item; back = first.back; is = first.is; there = first.there ∙ sym inside.1; passes = first.passes; others = first.others }
      | inr none ↦ absurd (omega (arith, inside.0, none.1))
    ]

pub missed : {A : Type 0} (test : A → Bool) (xs : List A) → position test xs ≡ None → AllFail test xs
missed test xs is = let outside = beyond test xs is in
    elim (found test xs) [
      | inl first ↦ absurd (omega (arith, outside, first.there, ap length first.is, length-append first.front (first.item ∷ first.back)))
      | inr none ↦ none.0
    ]

-- ---- attributes

module _ (name value : List ℕ) where
  value_found : (front back : List Attribute) (item : Attribute) → AllFail (λ attribute. bytes_eq attribute.name name) front → bytes_eq item.name name ≡ true
      → set_value name value (front ++ item ∷ back) ≡ front ++ (record { name = name; value = value }) ∷ back
  unfolding AllFail
  value_found [] back item fail passes = cond-true _ _ _ passes
  value_found (x ∷ front) back item fail passes = cond-false _ _ _ fail.0 ∙ ap (λ rest. x ∷ rest) (value_found front back item fail.1 passes)

  value_missed : (xs : List Attribute) → AllFail (λ attribute. bytes_eq attribute.name name) xs
      → set_value name value xs ≡ xs ++ (record { name = name; value = value }) ∷ []
  unfolding AllFail
  value_missed [] fail = refl
  value_missed (x ∷ xs) fail = cond-false _ _ _ fail.0 ∙ ap (λ rest. x ∷ rest) (value_missed xs fail.1)

  pub set_value_found : (xs : List Attribute) (place : ℕ) → position (λ attribute. bytes_eq attribute.name name) xs ≡ Some place
      → set_value name value xs ≡ set xs place (record { name = name; value = value })
  set_value_found xs place found =
      let first = found_at (λ attribute. bytes_eq attribute.name name) xs place found in
      ap (set_value name value) first.is ∙ value_found first.front first.back first.item first.others first.passes
      ∙ sym (set_at first.front first.item first.back (record { name = name; value = value }) place first.there)
      ∙ ap (λ all. set all place (record { name = name; value = value })) (sym first.is)

  pub set_value_missed : (xs : List Attribute) → position (λ attribute. bytes_eq attribute.name name) xs ≡ None
      → set_value name value xs ≡ xs ++ (record { name = name; value = value }) ∷ []
  set_value_missed xs none = value_missed xs (missed (λ attribute. bytes_eq attribute.name name) xs none)

-- ---- fields

module _ (name value : List ℕ) where
  field_found : (front back : List Field) (item : Field) → AllFail (is_called name) front → is_called name item ≡ true
      → set_field name value (front ++ item ∷ back) ≡ front ++ field_of name value ∷ without name back
  unfolding AllFail
  field_found [] back item fail passes = cond-true _ _ _ passes
  field_found (x ∷ front) back item fail passes = cond-false _ _ _ fail.0 ∙ ap (λ rest. x ∷ rest) (field_found front back item fail.1 passes)

  front_stays : (front back : List Field) (item : Field) → AllFail (is_called name) front → is_called name item ≡ true
      → without name (front ++ item ∷ back) ≡ front ++ without name back
  unfolding AllFail
  front_stays [] back item fail passes = cond-false _ _ _ (ap not passes)
  front_stays (x ∷ front) back item fail passes = cond-true _ _ _ (ap not fail.0) ∙ ap (λ rest. x ∷ rest) (front_stays front back item fail.1 passes)

  put_at : (front back : List Field) (item : Field) (place : ℕ) → length front ≡ place → insert (front ++ back) place item ≡ front ++ item ∷ back
  put_at front back item place there =
      ap (λ xs. xs ++ item ∷ drop place (front ++ back)) (take_at front back place there)
      ∙ ap (λ xs. front ++ item ∷ xs) (drop_at front back place there)

  pub set_field_found : (xs : List Field) (place : ℕ) → position (is_called name) xs ≡ Some place
      → insert (without name xs) place (field_of name value) ≡ set_field name value xs
  set_field_found xs place found =
      let first = found_at (is_called name) xs place found in
      ap (λ all. insert (without name all) place (field_of name value)) first.is
      ∙ ap (λ all. insert all place (field_of name value)) (front_stays first.front first.back first.item first.others first.passes)
      ∙ put_at first.front (without name first.back) (field_of name value) place first.there
      ∙ sym (ap (set_field name value) first.is ∙ field_found first.front first.back first.item first.others first.passes)

  -- If there is a field with the name, removing all such fields leaves room for a new one at the index of the first.
  pub less : (xs : List Field) (place : ℕ) → position (is_called name) xs ≡ Some place
      → (place ≤ length (without name xs)) × (length (without name xs) < length xs)
  less xs place found =
      let first = found_at (is_called name) xs place found in
      let kept : length (without name xs) ≡ length first.front + length (without name first.back) =
      ap (λ all. length (without name all)) first.is
      ∙ ap length (front_stays first.front first.back first.item first.others first.passes)
      ∙ length-append first.front (without name first.back) in
      let all : length xs ≡ length first.front + length (first.item ∷ first.back) = ap length first.is ∙ length-append first.front (first.item ∷ first.back) in
      let parts = length-filter_both (λ field. not (is_called name field)) (λ field. not (not (is_called name field))) (λ field. refl) first.back in
      (omega (arith, kept, first.there), omega (arith, kept, all, parts))

  field_missed : (xs : List Field) → AllFail (is_called name) xs → set_field name value xs ≡ xs ++ field_of name value ∷ []
  unfolding AllFail
  field_missed [] fail = refl
  field_missed (x ∷ xs) fail = cond-false _ _ _ fail.0 ∙ ap (λ rest. x ∷ rest) (field_missed xs fail.1)

  pub set_field_missed : (xs : List Field) → position (is_called name) xs ≡ None → set_field name value xs ≡ xs ++ field_of name value ∷ []
  set_field_missed xs none = field_missed xs (missed (is_called name) xs none)
