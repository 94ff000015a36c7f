-- Fields by name, and case-insensitive comparison of words.
use Rattle.std.proofs.Common.{◌≡◌, ℕ, ◌<◌, Bool, true, false, ◌||◌, List, [], ◌∷◌, length, get_or, refl, sym, ap, ◌∙◌, map, arith}
use Rattle.std.specs.List.{filter, list_any, list_all, count_by}
use Rattle.std.specs.Str.{bytes_eq}
use Rattle.std.specs.Char.{to_ascii_lowercase}
use Rattle.std.proofs.lemmas.Bool.{false_from_ne_true}
use Rattle.std.proofs.lemmas.List.{length-map, ext_get_or, get_or-map}
use Rattle.std.proofs.lemmas.List.Folds.{list_all-map}
use Rattle.std.proofs.lemmas.List.Sums.{length-filter}
use Rattle.std.proofs.lemmas.Slice.Eq.{bytes_eq-Decides}
use Rattle.http_header.specs.Token.{lowercase}
use Rattle.sv_message.specs.declared.field.Field.{Field}
use Rattle.sv_message.specs.Fields.{is_named, values_of}

list_any-map : {X Y : Type 0} (test : Y → Bool) (f : X → Y) (xs : List X) → list_any test (map f xs) ≡ list_any (λ x. test (f x)) xs
list_any-map test f [] = refl
list_any-map test f (x ∷ xs) = ap (λ t. test (f x) || t) (list_any-map test f xs)

module _ (name : List ℕ) (fields : List Field) where
  pub length-values_of : length (values_of name fields) ≡ count_by (is_named name) fields
  length-values_of = length-map (filter (is_named name) fields) (λ (field : Field). field.value.bytes) ∙ length-filter (is_named name) fields

  pub list_all-values_of : (test : List ℕ → Bool)
      → list_all test (values_of name fields) ≡ list_all (λ field. test field.value.bytes) (filter (is_named name) fields)
  list_all-values_of test = list_all-map test (λ (field : Field). field.value.bytes) (filter (is_named name) fields)

  pub list_any-values_of : (test : List ℕ → Bool)
      → list_any test (values_of name fields) ≡ list_any (λ field. test field.value.bytes) (filter (is_named name) fields)
  list_any-values_of test = list_any-map test (λ (field : Field). field.value.bytes) (filter (is_named name) fields)

-- ---- case-insensitive words

module _ (bytes word : List ℕ) where
  pub lowered_other : (i : ℕ) → i < length bytes → (to_ascii_lowercase (get_or bytes i 0) ≡ get_or word i 0 → ⊥)
      → bytes_eq (lowercase bytes) word ≡ false
  lowered_other i inside differ = false_from_ne_true _ (λ same.
      let at : get_or (lowercase bytes) i 0 ≡ get_or word i 0 = ap (λ t. get_or t i 0) ((bytes_eq-Decides (lowercase bytes) word).0 same) in
      differ (sym (get_or-map to_ascii_lowercase bytes i 0 0 inside) ∙ at))

  pub lowered_same : length bytes ≡ length word
      → ((k : ℕ) → k < length bytes → to_ascii_lowercase (get_or bytes k 0) ≡ get_or word k 0)
      → bytes_eq (lowercase bytes) word ≡ true
  lowered_same long each =
      let lengths = length-map bytes to_ascii_lowercase in
      (bytes_eq-Decides (lowercase bytes) word).1
      (ext_get_or 0 (lowercase bytes) word (lengths ∙ long) (λ i inside.
      let within : i < length bytes = omega (arith, lengths) in
      get_or-map to_ascii_lowercase bytes i 0 0 within ∙ each i within))
