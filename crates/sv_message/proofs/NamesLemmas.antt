-- The validity of a field name, as a test.
use Rattle.std.proofs.Common.{◌≡◌, ℕ, true, false, List, IsTrue, refl}
use Rattle.std.specs.Bool.{Decides}
use Rattle.std.specs.List.{list_all}
use Rattle.std.proofs.lemmas.Bool.{false_from_ne_true, true_from_ne_false, leb-true, le-leb}
use Rattle.std.proofs.lemmas.Bool.Decides.{Decides-and, Decides-by_and, Decides-ltb, not_from_Decides}
use Rattle.http_header.specs.FieldName.{IsFieldName, is_field_name}
use Rattle.http_header.specs.Token.{is_token_byte, token_test}

module _ (bytes : List ℕ) where
  name_decided : Decides (is_field_name bytes) (IsFieldName bytes)
  unfolding is_token_byte
  name_decided =
      Decides-and _ _
      (Decides-and _ _ (Decides-ltb _ _) (Decides-by_and token_test (λ b. IsTrue (token_test b)) (list_all token_test) (λ b. (λ h. h, λ h. h)) refl (λ _ _. refl) bytes))
      (leb-true _ _, le-leb _ _)

  pub name_passes : ¬ (¬ (IsFieldName bytes)) → is_field_name bytes ≡ true
  name_passes valid = true_from_ne_false _ (λ fails. valid (not_from_Decides _ name_decided fails))

  pub name_fails : ¬ (IsFieldName bytes) → is_field_name bytes ≡ false
  name_fails invalid = false_from_ne_true _ (λ passes. invalid (name_decided.0 passes))
