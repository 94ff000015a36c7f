-- Who may make a request, by the constraints that cover it (Jakarta Servlet 6.0, sections 13.8.1, 13.8.3 and 13.8.4).
use Rattle.std.specs.Prelude.{ℕ, Bool, not, cond, ◌==◌, List, [], ◌∷◌, length, Option, None, Some, is_none, is_some, if◌then◌else◌}
use Rattle.std.specs.List.{flat_map, list_any}
use Rattle.std.specs.Option.{option_copied, option_or}
use Rattle.sv_realm.specs.declared.caller.Caller.{Caller}
use Rattle.sv_constraints.specs.Decision.{why_of}
use Rattle.sv_constraints.specs.Roles.{roles_read}
use Rattle.sv_constraints.specs.Verdict.{admits_caller, is_open, least_where, permits_plain, precludes, verdict_at}
use Rattle.sv_constraints.specs.declared.constraint.Auth.{Auth}
use Rattle.sv_constraints.specs.declared.constraint.Auth.TheVariants as auth
use Rattle.sv_constraints.specs.declared.constraint.Constraint.{Constraint}
use Rattle.sv_constraints.specs.declared.constraint.Rules.{Rules}
use Rattle.sv_constraints.specs.declared.findings.Findings.{Findings}
use Rattle.sv_policy.specs.Merged.{admits_everyone}
use Rattle.sv_policy.specs.Uncovered.{rising}
use Rattle.sv_audit.specs.declared.access.Access.{Access}
use Rattle.sv_audit.specs.declared.access.Access.TheVariants.{Unconstrained, Uncovered, UncoveredDenied, Precluded, NeedsTls, Everyone, AnyLogin, Roles}
use Rattle.sv_audit.specs.declared.access.Cell.{Cell}
use Rattle.sv_audit.specs.declared.access.CellCaller.{CellCaller}
use Rattle.sv_audit.specs.declared.access.CellCaller.TheVariants.{Fitting, Given}

-- The access of the first row whose test holds, or the last access if none does.
abbrev pub first_access : List (Bool × Access) → Access → Access
first_access [] last = last
first_access (row ∷ rows) last = cond row.0 row.1 (first_access rows last)

-- Everyone may make an uncovered request, unless such requests are denied.
abbrev pub uncovered_access : Rules → Access
uncovered_access rules = if rules.deny_uncovered then UncoveredDenied else Uncovered

-- The roles that an authorization constraint means.
abbrev pub roles_meant : List (List ℕ) → Auth → List (List ℕ)
roles_meant declared auth.Absent = []
roles_meant declared (auth.Roles names) = roles_read declared names

-- The roles that the constraints mean, in ascending byte order.
abbrev pub roles_of : Rules → List Constraint → List (List ℕ)
roles_of rules members = rising (flat_map (λ member. roles_meant rules.declared member.auth) members)

-- The cases of the access at a best pattern, by the constraints that cover the method there.
abbrev pub access_cases : Rules → Option (List ℕ) → List Constraint → List (Bool × Access)
access_cases rules pattern members =
    (is_none pattern, Unconstrained)
    ∷ (length members == 0, uncovered_access rules)
    ∷ (list_any precludes members, Precluded)
    ∷ (not (list_any permits_plain members), NeedsTls)
    ∷ (list_any is_open members, Everyone)
    ∷ (list_any admits_everyone members, AnyLogin)
    ∷ []

-- Who may make a request, by its best pattern and the constraints that cover the method there.
abbrev pub access_at : Rules → Option (List ℕ) → List Constraint → Access
access_at rules pattern members = first_access (access_cases rules pattern members) (Roles (roles_of rules members))

-- Who may make a request if only callers may.
abbrev pub login_access : Rules → List Constraint → Access
login_access rules members = if list_any admits_everyone members then AnyLogin else Roles (roles_of rules members)

-- A caller who has just what the access asks for: no role, or those that it lists. Where no login is needed, no caller.
abbrev pub fitting_caller : Access → Option Caller
fitting_caller AnyLogin = Some (record { number = 0; name = []; roles = [] })
fitting_caller (Roles names) = Some (record { number = 0; name = []; roles = names })
fitting_caller access = None

-- The caller whose request the constraint of a cell decides: one who has just what the access asks for, or a given one, who
-- may be none.
abbrev pub asking : CellCaller → Access → Option Caller
asking Fitting = fitting_caller
asking (Given caller) = λ access. option_copied caller

-- The access with the number of the constraint that decides the request of this caller.
abbrev pub cell_with : (Access → Option Caller) → Rules → Option (List ℕ) → List Constraint → Access → Cell
cell_with whose rules pattern members its_access = record { access = its_access; constraint = (why_of (verdict_at rules (whose its_access) pattern members)).number }

unfoldable pub cell_for : (Access → Option Caller) → Rules → Option (List ℕ) → List Constraint → Cell
cell_for whose rules pattern members = cell_with whose rules pattern members (access_at rules pattern members)

-- The same, with the number for a caller who has just what the access asks for.
abbrev pub cell_at : Rules → Option (List ℕ) → List Constraint → Cell
cell_at rules pattern members = cell_for fitting_caller rules pattern members

-- Whether the constraint means a role.
abbrev pub means_role : Rules → Constraint → Bool
means_role rules constraint = not (length (roles_meant rules.declared constraint.auth) == 0)

-- The least number of a constraint that admits whoever has just what the access asks for: of one that admits every caller
-- or, if there is none, of one that means a role. For a given caller, that of one that admits the caller.
abbrev pub admitting_number : CellCaller → Rules → List Constraint → Option ℕ
admitting_number Fitting rules members = option_or (least_where admits_everyone members) (least_where (means_role rules) members)
admitting_number (Given caller) rules members = least_where (admits_caller rules (option_copied caller)) members

-- The same or, if there is none, the least number of all.
abbrev pub login_number : CellCaller → Rules → Option ℕ → List Constraint → Option ℕ
login_number whose rules covering members = option_or (admitting_number whose rules members) covering

-- The cell by the findings without a caller, or none if only callers may make the request.
abbrev pub found_cell : Rules → Findings → Option Cell
found_cell rules found =
    if is_none found.covering then Some (record { access = uncovered_access rules; constraint = None })
    else if is_some found.precluding then Some (record { access = Precluded; constraint = found.precluding })
    else if not found.permits_plain then Some (record { access = NeedsTls; constraint = found.covering })
    else if is_some found.unauthenticated then Some (record { access = Everyone; constraint = found.unauthenticated })
    else None
