-- The effect of the calls on the attributes of a session, by the index of an attribute.
use Rattle.std.proofs.Common.{◌≡◌, ℕ, ◌<◌, List, [], ◌∷◌, ◌++◌, length, Some, None, get_or, set, refl, sym, ◌∙◌, ap, subst}
use Rattle.std.specs.List.{position, remove}
use Rattle.sv_session.specs.declared.slot.Attribute.{Attribute}
use Rattle.sv_session.specs.Attributes.{is_named, value_named, with_named, without_named}
use Rattle.sv_session.specs.Store.{Session}
use Rattle.sv_session.proofs.FirstLemmas.{IsFirstAt, found_at, missed_at}

-- ---- no attribute of the name
module _ (name : List ℕ) (session : Session) (missed : None ≡ position (is_named name) session.attributes) where
  pub not_valued : None ≡ value_named name session.attributes
  not_valued = rw (missed_at (is_named name) session.attributes (sym missed)).finds refl

  pub nothing_taken : session ≡ record session { attributes = without_named name session.attributes }
  nothing_taken = ap (λ all. record session { attributes = all }) (sym (missed_at (is_named name) session.attributes (sym missed)).leaves)

  pub one_more : (value : List ℕ) → session.attributes ++ record { name = name; value = value } ∷ [] ≡ with_named name value session.attributes
  one_more value = rw (missed_at (is_named name) session.attributes (sym missed)).any refl

-- ---- the attribute of the name, at its index
module _ (name : List ℕ) (place : ℕ) (kept attributes : List Attribute) (same : kept ≡ attributes)
    (found : Some place ≡ position (is_named name) attributes) (bound : place < length attributes) where
  first : IsFirstAt (is_named name) kept place
  first =
      subst (λ all. Some place ≡ position (is_named name) all → place < length all → IsFirstAt (is_named name) kept place) same
      (λ here within. found_at (is_named name) kept place (sym here) within) found bound

  pub taken_at : remove kept place ≡ without_named name attributes
  taken_at = first.leaves ∙ ap (without_named name) same

  module _ (item : Attribute) (is : item ≡ get_or kept place item) where
    pub valued_at : Some item.value ≡ value_named name attributes
    valued_at = subst (λ all. Some item.value ≡ value_named name all) same (rw (first.finds item, ← is) refl)

    pub set_at : (value : List ℕ) (new : Attribute) → new ≡ record item { value = value } → set kept place new ≡ with_named name value attributes
    set_at value new is_new =
        subst (λ all. set kept place new ≡ with_named name value all) same
        (rw first.any (ap (set kept place) (is_new ∙ ap (λ (attribute : Attribute). record attribute { value = value }) is) ∙ first.changes (λ attribute. record attribute { value = value }) item))
