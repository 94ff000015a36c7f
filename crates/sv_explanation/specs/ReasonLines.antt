-- Why the constraints decide as they do, in sentences (Jakarta Servlet 6.0, sections 13.8.1, 13.8.3 and 13.8.4).
use Rattle.std.specs.Prelude.{ℕ, Bool, List, [], ◌∷◌, codes, Option, None, Some, if◌then◌else◌}
use Rattle.std.specs.Fmt.{decimal}
use Rattle.std.specs.List.{flat_map}
use Rattle.std.specs.Option.{option_map_or}
use Rattle.sv_constraints.specs.Decision.{why_of}
use Rattle.sv_constraints.specs.declared.cause.Cause.{Cause}
use Rattle.sv_constraints.specs.declared.cause.Cause.TheVariants as causes
use Rattle.sv_constraints.specs.declared.owned_decision.OwnedDecision.{OwnedDecision}
use Rattle.sv_constraints.specs.declared.owned_decision.OwnedDecision.TheVariants.{Open, Login, Denied}
use Rattle.sv_constraints.specs.declared.owned_decision.OwnedWhy.{OwnedWhy}
use Rattle.sv_report.specs.Escaped.{escaped}
use Rattle.sv_report.specs.Parts.{joined}
use Rattle.sv_report.specs.Places.{place_text}
use Rattle.sv_report.specs.Words.{names_text, pattern_text}
use Rattle.sv_explanation.specs.declared.explanation.JudgedCaller.{JudgedCaller}
use Rattle.sv_explanation.specs.declared.explanation.JudgedCaller.TheVariants as callers
use Rattle.sv_explanation.specs.declared.listed_constraint.Entrants.{Entrants}
use Rattle.sv_explanation.specs.declared.listed_constraint.Entrants.TheVariants.{Everyone, AnyLogin, WithRole, Nobody}
use Rattle.sv_explanation.specs.declared.listed_constraint.ListedConstraint.{ListedConstraint}

-- The callers that a constraint admits.
abbrev pub entrants_text : Entrants → List ℕ
entrants_text Everyone = codes "everyone may enter"
entrants_text AnyLogin = codes "callers who log in may enter"
entrants_text (WithRole []) = codes "nobody may enter (no such role)"
entrants_text (WithRole (name ∷ names)) = joined (codes "callers with the role " ∷ names_text (name ∷ names) ∷ codes " may enter" ∷ [])
entrants_text Nobody = codes "nobody may enter"

abbrev pub transport_text : Bool → List ℕ
transport_text needs_tls = if needs_tls then codes "; it needs TLS" else []

-- Whether a constraint covers the method, and whom it then admits.
abbrev pub coverage_text : List ℕ → ListedConstraint → List ℕ
coverage_text method listed =
    if listed.is_covering then joined (codes "covers " ∷ escaped method ∷ codes " there: " ∷ entrants_text listed.entrants ∷ transport_text listed.needs_tls ∷ [])
    else joined (codes "does not cover " ∷ escaped method ∷ codes " there" ∷ [])

-- The line of a constraint on the best pattern.
unfoldable pub constraint_line : List ℕ → List ℕ → ListedConstraint → List ℕ
constraint_line file method listed = joined (
    codes "  Constraint " ∷ decimal listed.number ∷ place_text file listed.line ∷ codes " " ∷ coverage_text method listed ∷ codes ".\n" ∷ [])

abbrev pub constraint_lines : List ℕ → List ℕ → List ListedConstraint → List ℕ
constraint_lines file method listed = flat_map (constraint_line file method) listed

-- The best pattern.
abbrev pub pattern_line : Option (List ℕ) → List ℕ
pattern_line None = codes "No pattern of a constraint matches it.\n"
pattern_line (Some pattern) = joined (codes "Its best matching pattern is " ∷ pattern_text (Some pattern) ∷ codes ".\n" ∷ [])

-- Why the request has no caller, if one is asked for.
abbrev pub caller_line : JudgedCaller → List ℕ
caller_line callers.Nobody = []
caller_line (callers.Named name) = []
caller_line (callers.NoSuchUser name) = joined (codes "The context has no user " ∷ escaped name ∷ codes ", so the request has no caller.\n" ∷ [])
caller_line (callers.NoLogin name) = joined (escaped name ∷ codes " cannot log in: the context has no login configuration.\n" ∷ [])

abbrev pub caller_text : JudgedCaller → List ℕ
caller_text callers.Nobody = codes "the caller"
caller_text (callers.Named name) = escaped name
caller_text (callers.NoSuchUser name) = codes "the caller"
caller_text (callers.NoLogin name) = codes "the caller"

-- An uncovered request passes, or is denied.
abbrev pub uncovered_text : OwnedDecision → List ℕ
uncovered_text (Open why) = codes ", so everyone may enter"
uncovered_text (Login why) = codes ", so everyone may enter"
uncovered_text (Denied why) = codes ", and uncovered methods are denied"

abbrev pub uncovered_line : List ℕ → OwnedDecision → List ℕ
uncovered_line method decision = joined (codes "No constraint covers " ∷ escaped method ∷ codes " there" ∷ uncovered_text decision ∷ codes ".\n" ∷ [])

-- What the constraint with this number decides.
abbrev pub decides : Option ℕ → List ℕ → List ℕ
decides number what = joined (codes "Constraint " ∷ option_map_or decimal number (codes "-") ∷ codes " decides: " ∷ what ∷ codes ".\n" ∷ [])

-- What it decides for the caller.
abbrev pub decides_on : Option ℕ → JudgedCaller → List ℕ → List ℕ
decides_on number caller what = decides number (joined (caller_text caller ∷ what ∷ []))

-- The reason of the decision, by its cause.
abbrev pub reason_by : List ℕ → JudgedCaller → OwnedDecision → OwnedWhy → Cause → List ℕ
reason_by method caller decision why causes.NoPattern = codes "Everyone may enter.\n"
reason_by method caller decision why causes.Uncovered = uncovered_line method decision
reason_by method caller decision why causes.Precluded = decides why.number (codes "nobody may enter")
reason_by method caller decision why causes.Transport = decides why.number (codes "a plain connection may not enter")
reason_by method caller decision why causes.Unauthenticated = decides why.number (codes "everyone may enter")
reason_by method caller decision why causes.NeedsCaller = decides why.number (codes "the request needs a login")
reason_by method caller decision why causes.Role = decides_on why.number caller (codes " may enter")
reason_by method caller decision why causes.NoRole = decides_on why.number caller (codes " has none of the roles")

abbrev pub reason_line : List ℕ → JudgedCaller → OwnedDecision → List ℕ
reason_line method caller decision = reason_by method caller decision (why_of decision) (why_of decision).cause
