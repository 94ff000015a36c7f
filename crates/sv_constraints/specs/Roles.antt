-- The role names of an authorization constraint (Jakarta Servlet 6.0, section 13.8).
use Rattle.std.specs.Prelude.{ℕ, Bool, false, ◌||◌, List, [], ◌∷◌, Option, None, Some, codes, if◌then◌else◌}
use Rattle.std.specs.List.{list_any, flat_map}
use Rattle.std.specs.Str.{bytes_eq}
use Rattle.sv_realm.specs.declared.caller.Caller.{Caller}
use Rattle.sv_constraints.specs.Covering.{lists}
use Rattle.sv_constraints.specs.declared.constraint.Auth.{Auth}
use Rattle.sv_constraints.specs.declared.constraint.Auth.TheVariants.{Absent, Roles}

-- The roles that a listed name means: all declared roles for `*`, none for `**`.
abbrev pub roles_named : List (List ℕ) → List ℕ → List (List ℕ)
roles_named declared name =
    if bytes_eq name (codes "*") then declared else if bytes_eq name (codes "**") then [] else name ∷ []

-- The roles that a list of names means.
abbrev pub roles_read : List (List ℕ) → List (List ℕ) → List (List ℕ)
roles_read declared names = flat_map (roles_named declared) names

-- Whether the list names every authenticated caller, or a role that the caller holds.
abbrev pub admits_holder : List (List ℕ) → List (List ℕ) → List (List ℕ) → Bool
admits_holder declared names held =
    lists names (codes "**") || list_any (lists held) (roles_read declared names)

-- Whether the authorization constraint names roles that admit the caller.
abbrev pub admits : List (List ℕ) → Option Caller → Auth → Bool
admits declared (Some caller) (Roles names) = admits_holder declared names caller.roles
admits declared (Some caller) Absent = false
admits declared None auth = false
