-- Merged constraints, for all callers at once (Jakarta Servlet 6.0, section 13.8.1).
use Rattle.std.specs.Prelude.{◌≡◌, ℕ, Bool, false, List, fold, Option, None, Some, codes}
use Rattle.std.specs.HashMap.{get_by_text}
use Rattle.sv_realm.specs.declared.caller.Caller.{Caller}
use Rattle.sv_constraints.specs.Covering.{lists}
use Rattle.sv_constraints.specs.Findings.{findings_of, lesser}
use Rattle.sv_constraints.specs.Roles.{roles_read}
use Rattle.sv_constraints.specs.Verdict.{least_where}
use Rattle.sv_constraints.specs.declared.constraint.Auth.{Auth}
use Rattle.sv_constraints.specs.declared.constraint.Auth.TheVariants.{Absent, Roles}
use Rattle.sv_constraints.specs.declared.constraint.Constraint.{Constraint}
use Rattle.sv_constraints.specs.declared.constraint.Rules.{Rules}
use Rattle.sv_policy.specs.declared.merged.Merged.{Merged}
use Rattle.sv_policy.specs.declared.role_numbers.RoleNumbers.{RoleNumbers}

-- Whether an authorization constraint names every authenticated caller.
abbrev pub names_everyone : Auth → Bool
names_everyone Absent = false
names_everyone (Roles names) = lists names (codes "**")

-- Whether it names the role, directly or by `*`.
abbrev pub names_role : List (List ℕ) → List ℕ → Auth → Bool
names_role declared role Absent = false
names_role declared role (Roles names) = lists (roles_read declared names) role

abbrev pub admits_everyone : Constraint → Bool
admits_everyone constraint = names_everyone constraint.auth

abbrev pub grants : Rules → List ℕ → Constraint → Bool
grants rules role constraint = names_role rules.declared role constraint.auth

-- The number of a role.
abbrev pub number_of : RoleNumbers → List ℕ → Option ℕ
number_of kept role = get_by_text kept.numbers role

-- The merge has the least number of the constraints of each kind, and of those that name each role.
pub record IsMerged (rules : Rules) (members : List Constraint) (merged : Merged) : Type 0 where
  pub found : merged.found ≡ findings_of rules None members
  pub everyone : merged.everyone ≡ least_where admits_everyone members
  pub roles : (role : List ℕ) → number_of merged.roles role ≡ least_where (grants rules role) members

-- The least of the number for every caller and the numbers of the caller's roles.
abbrev pub admitting : Merged → Option Caller → Option ℕ
admitting merged None = None
admitting merged (Some caller) = fold (λ least role. lesser least (number_of merged.roles role)) merged.everyone caller.roles
