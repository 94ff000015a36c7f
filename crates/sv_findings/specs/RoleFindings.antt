-- Roles that are named, declared or held, but not all three (Jakarta Servlet 6.0, section 13.8).
use Rattle.std.specs.Prelude.{ℕ, Bool, not, ◌&&◌, ◌||◌, ◌==◌, List, [], ◌++◌, length, codes, filter, map, Option, None, Some}
use Rattle.std.specs.List.{flat_map}
use Rattle.std.specs.Str.{bytes_eq}
use Rattle.sv_constraints.specs.Covering.{lists}
use Rattle.sv_constraints.specs.declared.constraint.Auth.{Auth}
use Rattle.sv_constraints.specs.declared.constraint.Auth.TheVariants as auth
use Rattle.sv_constraints.specs.declared.constraint.Constraint.{Constraint}
use Rattle.sv_policy.specs.Patterns.{different}
use Rattle.sv_policy.specs.Uncovered.{rising}
use Rattle.sv_audit.specs.Access.{roles_meant}
use Rattle.sv_findings.specs.declared.finding.Finding.{Finding}
use Rattle.sv_findings.specs.declared.finding.Finding.TheVariants as finding

-- `*` and `**` are no roles (section 13.8.1).
abbrev pub is_role : List ℕ → Bool
is_role name = not (bytes_eq name (codes "*") || bytes_eq name (codes "**"))

-- Whether the name is a role that is not declared.
abbrev pub is_unknown : List (List ℕ) → List ℕ → Bool
is_unknown declared name = is_role name && not (lists declared name)

abbrev pub unknown_roles : List (List ℕ) → ℕ → Auth → List Finding
unknown_roles declared number auth.Absent = []
unknown_roles declared number (auth.Roles names) = map (finding.UnknownRole number) (different (filter (is_unknown declared) names))

abbrev pub unknown_among : List (List ℕ) → List Constraint → List Finding
unknown_among declared constraints = flat_map (λ constraint. unknown_roles declared constraint.number constraint.auth) constraints

-- The roles that constraints mean, in ascending byte order. `*` means all declared ones.
abbrev pub named_roles : List (List ℕ) → List Constraint → List (List ℕ)
named_roles declared constraints = rising (flat_map (λ constraint. roles_meant declared constraint.auth) constraints)

-- Whether no user has the role, although it is declared or no roles are.
abbrev pub is_unheld : List (List ℕ) → List (List ℕ) → List ℕ → Bool
is_unheld declared held name = is_role name && (length declared == 0 || lists declared name) && not (lists held name)

-- The named roles that no user has, if users are known.
abbrev pub unheld_roles : List (List ℕ) → Option (List (List ℕ)) → List Constraint → List Finding
unheld_roles declared None constraints = []
unheld_roles declared (Some held) constraints = map finding.UnheldRole (filter (is_unheld declared held) (named_roles declared constraints))

-- Whether no constraint names the role.
abbrev pub is_unused : List (List ℕ) → List ℕ → Bool
is_unused named name = is_role name && not (lists named name)

-- The declared roles that no constraint names, each once.
abbrev pub unused_roles : List (List ℕ) → List Constraint → List Finding
unused_roles declared constraints = map finding.UnusedRole (different (filter (is_unused (named_roles declared constraints)) declared))

-- The findings of roles, given the declared ones and those that users have, if users are known.
abbrev pub role_findings : List (List ℕ) → Option (List (List ℕ)) → List Constraint → List Finding
role_findings declared held constraints = unknown_among declared constraints ++ unheld_roles declared held constraints ++ unused_roles declared constraints
