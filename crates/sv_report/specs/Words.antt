-- The texts of the columns of access tables.
use Rattle.std.specs.Prelude.{ℕ, Bool, true, false, not, List, [], ◌∷◌, ◌++◌, codes, Option, None, Some, if◌then◌else◌}
use Rattle.std.specs.List.{flat_map}
use Rattle.sv_constraints.specs.declared.constraint.Methods.{Methods}
use Rattle.sv_constraints.specs.declared.constraint.Methods.TheVariants.{All, Only, Except}
use Rattle.sv_report.specs.Escaped.{escaped}
use Rattle.sv_report.specs.Parts.{joined}
use Rattle.sv_audit.specs.declared.access.Access.{Access}
use Rattle.sv_audit.specs.declared.access.Access.TheVariants.{Unconstrained, Uncovered, UncoveredDenied, Precluded, NeedsTls, Everyone, AnyLogin, Roles}

-- Names, separated by commas.
abbrev pub others_text : List (List ℕ) → List ℕ
others_text names = flat_map (λ name. codes ", " ++ escaped name) names

abbrev pub names_text : List (List ℕ) → List ℕ
names_text [] = []
names_text (name ∷ names) = escaped name ++ others_text names

abbrev pub pattern_text : Option (List ℕ) → List ℕ
pattern_text None = codes "other paths"
pattern_text (Some []) = codes "\"\""
pattern_text (Some (first ∷ rest)) = escaped (first ∷ rest)

abbrev pub methods_text : Methods → List ℕ
methods_text All = codes "all"
methods_text (Only names) = names_text names
methods_text (Except []) = codes "all"
methods_text (Except (name ∷ names)) = codes "others"

-- Callers who log in, or why nobody does.
abbrev pub or_no_login : Bool → List ℕ → List ℕ
or_no_login has_login text = if has_login then text else codes "no login"

-- Whom an access lets in, or why it lets nobody in.
abbrev pub refusal_text : Bool → Access → List ℕ
refusal_text has_login Unconstrained = codes "everyone (no constraint)"
refusal_text has_login Uncovered = codes "everyone (uncovered)"
refusal_text has_login UncoveredDenied = codes "uncovered, denied"
refusal_text has_login Precluded = codes "no role is allowed"
refusal_text has_login NeedsTls = codes "needs TLS"
refusal_text has_login Everyone = codes "everyone"
refusal_text has_login AnyLogin = or_no_login has_login (codes "any login")
refusal_text has_login (Roles []) = codes "no such role"
refusal_text has_login (Roles (name ∷ names)) = or_no_login has_login (codes "role " ++ names_text (name ∷ names))

-- Whether an access lets nobody in.
abbrev pub lets_nobody_in : Bool → Access → Bool
lets_nobody_in has_login UncoveredDenied = true
lets_nobody_in has_login Precluded = true
lets_nobody_in has_login AnyLogin = not has_login
lets_nobody_in has_login (Roles []) = true
lets_nobody_in has_login (Roles (name ∷ names)) = not has_login
lets_nobody_in has_login access = false

-- The callers that may enter or, if there are none, the reason.
abbrev pub who_text : Bool → Access → List ℕ
who_text has_login access =
    if lets_nobody_in has_login access then joined (codes "nobody (" ∷ refusal_text has_login access ∷ codes ")" ∷ [])
    else refusal_text has_login access
