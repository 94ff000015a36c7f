-- The fields that a proxy reads, after another field was set or added.
use Rattle.std.proofs.Common.{◌≡◌, ℕ, Bool, true, false, not, cond, List, [], ◌∷◌, Some, refl, sym, ap, ◌∙◌}
use Rattle.std.proofs.lemmas.Bool.{cond-false}
use Rattle.std.proofs.lemmas.Slice.Eq.{bytes_eq-Decides}
use Rattle.std.specs.Prelude.{bytes_eq, codes}
use Rattle.http_header.specs.Token.{lowercase}
use Rattle.sv_application.specs.ProxyFields.{proxy_fields}
use Rattle.sv_exchange.specs.Fields.{add_field, field_of, first_value, is_called, set_field, without}
use Rattle.sv_message.specs.declared.field.Field.{Field}

-- a field has no two names
apart : (name asked : List ℕ) (field : Field) → bytes_eq (lowercase name) (lowercase asked) ≡ false → is_called name field ≡ true → is_called asked field ≡ false
apart name asked field other is =
    ap (λ its. bytes_eq its (lowercase asked)) ((bytes_eq-Decides field.name (lowercase name)).0 is) ∙ other

module _ (name asked : List ℕ) (other : bytes_eq (lowercase name) (lowercase asked) ≡ false) where
  value_without : (fields : List Field) → first_value asked (without name fields) ≡ first_value asked fields
  value_without [] = refl
  value_without (field ∷ fields) = by (value_without fields) (is_called name field) refl
    where
      by : first_value asked (without name fields) ≡ first_value asked fields → (called : Bool) → is_called name field ≡ called
          → first_value asked (cond (not called) (field ∷ without name fields) (without name fields)) ≡ first_value asked (field ∷ fields)
      by same true is = same ∙ sym (cond-false (is_called asked field) _ _ (apart name asked field other is))
      by same false is = ap (λ later. cond (is_called asked field) (Some field.value.bytes) later) same

  -- the field is set
  pub value_kept : (value : List ℕ) (fields : List Field) → first_value asked (set_field name value fields) ≡ first_value asked fields
  value_kept value [] = cond-false (is_called asked (field_of name value)) _ _ other
  value_kept value (field ∷ fields) = by (value_kept value fields) (is_called name field) refl
    where
      by : first_value asked (set_field name value fields) ≡ first_value asked fields → (called : Bool) → is_called name field ≡ called
          → first_value asked (cond called (field_of name value ∷ without name fields) (field ∷ set_field name value fields)) ≡ first_value asked (field ∷ fields)
      by same true is =
          cond-false (is_called asked (field_of name value)) _ _ other
          ∙ value_without fields
          ∙ sym (cond-false (is_called asked field) _ _ (apart name asked field other is))
      by same false is = ap (λ later. cond (is_called asked field) (Some field.value.bytes) later) same

  -- it is added
  pub value_beside : (value : List ℕ) (fields : List Field) → first_value asked (add_field name value fields) ≡ first_value asked fields
  value_beside value [] = cond-false (is_called asked (field_of name value)) _ _ other
  value_beside value (field ∷ fields) = ap (λ later. cond (is_called asked field) (Some field.value.bytes) later) (value_beside value fields)

-- ---- the five fields

-- a name of none of them
pub record IsOtherName (name : List ℕ) : Type 0 where
  pub internal : bytes_eq (lowercase name) (codes "x-accel-redirect") ≡ false
  pub target : bytes_eq (lowercase name) (codes "x-application-target") ≡ false
  pub caller : bytes_eq (lowercase name) (codes "x-application-caller") ≡ false
  pub roles : bytes_eq (lowercase name) (codes "x-application-roles") ≡ false
  pub cookies : bytes_eq (lowercase name) (codes "x-application-cookie") ≡ false

module _ (name value : List ℕ) (fields : List Field) (other : IsOtherName name) where
  pub other_set : proxy_fields (set_field name value fields) ≡ proxy_fields fields
  other_set i = record {
    internal = value_kept name (codes "x-accel-redirect") other.internal value fields i;
    target = value_kept name (codes "x-application-target") other.target value fields i;
    caller = value_kept name (codes "x-application-caller") other.caller value fields i;
    roles = value_kept name (codes "x-application-roles") other.roles value fields i;
    cookies = value_kept name (codes "x-application-cookie") other.cookies value fields i;
  }

  pub other_added : proxy_fields (add_field name value fields) ≡ proxy_fields fields
  other_added i = record {
    internal = value_beside name (codes "x-accel-redirect") other.internal value fields i;
    target = value_beside name (codes "x-application-target") other.target value fields i;
    caller = value_beside name (codes "x-application-caller") other.caller value fields i;
    roles = value_beside name (codes "x-application-roles") other.roles value fields i;
    cookies = value_beside name (codes "x-application-cookie") other.cookies value fields i;
  }
