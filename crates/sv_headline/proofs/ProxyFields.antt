-- The fields that a proxy reads, after other fields or these were set.
use Rattle.std.proofs.Common.{◌≡◌, inl, inr, ℕ, Bool, true, false, cond, List, [], ◌∷◌, Some, refl, sym, ◌∙◌, subst}
use Rattle.std.proofs.lemmas.Bool.{cond-true, cond-false}
use Rattle.std.specs.Prelude.{bytes_eq, codes}
use Rattle.http_header.specs.Token.{lowercase}
use Rattle.sv_application.proofs.ProxyFields.{other_set, value_kept}
use Rattle.sv_application.specs.ProxyFields.{proxy_fields}
use Rattle.sv_exchange.specs.Fields.{field_of, first_value, is_called, set_field, without}
use Rattle.sv_message.specs.declared.field.Field.{Field}
use Rattle.sv_tree.proofs.Keeping.{IsOwnName}

-- ---- the first value of a name, after a field was set

-- the name that was set
value_set : (name value : List ℕ) → bytes_eq (lowercase name) (lowercase name) ≡ true → (fields : List Field)
    → first_value name (set_field name value fields) ≡ Some value
value_set name value same [] = cond-true (is_called name (field_of name value)) _ _ same
value_set name value same (field ∷ fields) = by (value_set name value same fields) (is_called name field) refl
  where
    by : first_value name (set_field name value fields) ≡ Some value → (called : Bool) → is_called name field ≡ called
        → first_value name (cond called (field_of name value ∷ without name fields) (field ∷ set_field name value fields)) ≡ Some value
    by later true is = cond-true (is_called name (field_of name value)) _ _ same
    by later false is = cond-false (is_called name field) _ _ is ∙ later

-- ---- the five fields

module _ (value : List ℕ) (fields : List Field) where
  pub internal_set : proxy_fields (set_field (codes "x-accel-redirect") value fields) ≡ record (proxy_fields fields) { internal = Some value }
  internal_set i = record {
    internal = value_set (codes "x-accel-redirect") value refl fields i;
    target = value_kept (codes "x-accel-redirect") (codes "x-application-target") refl value fields i;
    caller = value_kept (codes "x-accel-redirect") (codes "x-application-caller") refl value fields i;
    roles = value_kept (codes "x-accel-redirect") (codes "x-application-roles") refl value fields i;
    cookies = value_kept (codes "x-accel-redirect") (codes "x-application-cookie") refl value fields i;
  }

  pub target_set : proxy_fields (set_field (codes "x-application-target") value fields) ≡ record (proxy_fields fields) { target = Some value }
  target_set i = record {
    internal = value_kept (codes "x-application-target") (codes "x-accel-redirect") refl value fields i;
    target = value_set (codes "x-application-target") value refl fields i;
    caller = value_kept (codes "x-application-target") (codes "x-application-caller") refl value fields i;
    roles = value_kept (codes "x-application-target") (codes "x-application-roles") refl value fields i;
    cookies = value_kept (codes "x-application-target") (codes "x-application-cookie") refl value fields i;
  }

  pub caller_set : proxy_fields (set_field (codes "x-application-caller") value fields) ≡ record (proxy_fields fields) { caller = Some value }
  caller_set i = record {
    internal = value_kept (codes "x-application-caller") (codes "x-accel-redirect") refl value fields i;
    target = value_kept (codes "x-application-caller") (codes "x-application-target") refl value fields i;
    caller = value_set (codes "x-application-caller") value refl fields i;
    roles = value_kept (codes "x-application-caller") (codes "x-application-roles") refl value fields i;
    cookies = value_kept (codes "x-application-caller") (codes "x-application-cookie") refl value fields i;
  }

  pub roles_set : proxy_fields (set_field (codes "x-application-roles") value fields) ≡ record (proxy_fields fields) { roles = Some value }
  roles_set i = record {
    internal = value_kept (codes "x-application-roles") (codes "x-accel-redirect") refl value fields i;
    target = value_kept (codes "x-application-roles") (codes "x-application-target") refl value fields i;
    caller = value_kept (codes "x-application-roles") (codes "x-application-caller") refl value fields i;
    roles = value_set (codes "x-application-roles") value refl fields i;
    cookies = value_kept (codes "x-application-roles") (codes "x-application-cookie") refl value fields i;
  }

  pub cookies_set : proxy_fields (set_field (codes "x-application-cookie") value fields) ≡ record (proxy_fields fields) { cookies = Some value }
  cookies_set i = record {
    internal = value_kept (codes "x-application-cookie") (codes "x-accel-redirect") refl value fields i;
    target = value_kept (codes "x-application-cookie") (codes "x-application-target") refl value fields i;
    caller = value_kept (codes "x-application-cookie") (codes "x-application-caller") refl value fields i;
    roles = value_kept (codes "x-application-cookie") (codes "x-application-roles") refl value fields i;
    cookies = value_set (codes "x-application-cookie") value refl fields i;
  }

  abbrev AreKept : List ℕ → Type 0
  AreKept name = proxy_fields (set_field name value fields) ≡ proxy_fields fields

  -- a field that the container sets is none of them
  pub own_set : (name : List ℕ) → IsOwnName name → proxy_fields (set_field name value fields) ≡ proxy_fields fields
  own_set name (inl is) =
      subst AreKept (sym is) (other_set (codes "content-type") value fields record { internal = refl; target = refl; caller = refl; roles = refl; cookies = refl })
  own_set name (inr (inl is)) =
      subst AreKept (sym is) (other_set (codes "location") value fields record { internal = refl; target = refl; caller = refl; roles = refl; cookies = refl })
  own_set name (inr (inr (inl is))) =
      subst AreKept (sym is) (other_set (codes "allow") value fields record { internal = refl; target = refl; caller = refl; roles = refl; cookies = refl })
  own_set name (inr (inr (inr is))) =
      subst AreKept (sym is) (other_set (codes "retry-after") value fields record { internal = refl; target = refl; caller = refl; roles = refl; cookies = refl })
