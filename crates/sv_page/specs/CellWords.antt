-- What the cells of an access table mean, in a class and a sentence each (Jakarta Servlet 6.0).
use Rattle.std.specs.Prelude.{ℕ, Bool, List, [], ◌∷◌, codes, Option, None, Some, if◌then◌else◌}
use Rattle.sv_audit.specs.declared.access.Access.{Access}
use Rattle.sv_audit.specs.declared.access.Access.TheVariants.{Unconstrained, Uncovered, UncoveredDenied, Precluded, NeedsTls, Everyone, AnyLogin, Roles}
use Rattle.sv_report.specs.Parts.{joined}
use Rattle.sv_report.specs.Places.{constraint_text}
use Rattle.sv_report.specs.Viewers.{may_enter}
use Rattle.sv_report.specs.declared.report.Viewer.{Viewer}

-- The class of a cell, which gives its color.
abbrev pub class_of : Bool → Access → List ℕ
class_of has_login Unconstrained = codes "open"
class_of has_login Uncovered = codes "uncovered"
class_of has_login UncoveredDenied = codes "nobody"
class_of has_login Precluded = codes "nobody"
class_of has_login NeedsTls = codes "tls"
class_of has_login Everyone = codes "open"
class_of has_login AnyLogin = if has_login then codes "login" else codes "nobody"
class_of has_login (Roles []) = codes "nobody"
class_of has_login (Roles (name ∷ names)) = if has_login then codes "login" else codes "nobody"

-- With a viewer who may not enter, it is that of cells for nobody.
abbrev pub class_for : Option Viewer → Bool → Access → List ℕ
class_for None has_login access = class_of has_login access
class_for (Some viewer) has_login access = if may_enter viewer has_login access then class_of has_login access else codes "nobody"

abbrev pub login_reason : Bool → List ℕ → List ℕ
login_reason has_login reason = if has_login then reason else codes "A login is needed, and the context has no login configuration (section 13.6)."

-- Why a cell is as it is.
abbrev pub reason : Bool → Access → List ℕ
reason has_login Unconstrained = codes "No pattern of a constraint matches these paths (section 12.1)."
reason has_login Uncovered = codes "Constraints cover only other methods here, so everyone may use these (section 13.8.4)."
reason has_login UncoveredDenied = codes "No constraint covers these methods, and uncovered methods are denied (section 13.8.4)."
reason has_login Precluded = codes "An authorization constraint without roles excludes everyone (section 13.8.1)."
reason has_login NeedsTls = codes "Each constraint here requires a protected transport (section 13.8.1)."
reason has_login Everyone = codes "A constraint without an authorization constraint admits everyone (section 13.8.1)."
reason has_login AnyLogin = login_reason has_login (codes "Every caller who logs in may enter (section 13.8.1).")
reason has_login (Roles names) = login_reason has_login (codes "Only callers with one of the roles may enter (section 13.8.1).")

-- The constraint that decides, if there is one.
abbrev pub constraint_sentence : List (Option ℕ) → Option ℕ → List ℕ
constraint_sentence lines None = []
constraint_sentence lines (Some number) = joined (codes " Constraint: " ∷ constraint_text lines (Some number) ∷ codes "." ∷ [])

-- Why a cell is as it is, with the constraint.
abbrev pub explanation : List (Option ℕ) → List ℕ → Option ℕ → List ℕ
explanation lines reason constraint = joined (reason ∷ constraint_sentence lines constraint ∷ [])
