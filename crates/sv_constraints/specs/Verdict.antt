-- The verdict on a request, as a table of eight cases (Jakarta Servlet 6.0, sections 13.8.1, 13.8.3 and 13.8.4).
use Rattle.std.specs.Prelude.{ℕ, Bool, true, false, not, cond, ◌==◌, List, [], ◌∷◌, length, filter, map, min, Option, None, is_none, if◌then◌else◌}
use Rattle.std.specs.List.{list_any, reduce}
use Rattle.sv_mapping.specs.BestMatch.{best_pattern}
use Rattle.sv_realm.specs.declared.caller.Caller.{Caller}
use Rattle.sv_constraints.specs.Covering.{covering, all_patterns}
use Rattle.sv_constraints.specs.Roles.{admits}
use Rattle.sv_constraints.specs.declared.constraint.Auth.{Auth}
use Rattle.sv_constraints.specs.declared.constraint.Auth.TheVariants.{Absent, Roles}
use Rattle.sv_constraints.specs.declared.constraint.Constraint.{Constraint}
use Rattle.sv_constraints.specs.declared.constraint.Transport.{Transport}
use Rattle.sv_constraints.specs.declared.constraint.Transport.TheVariants as transport
use Rattle.sv_constraints.specs.declared.cause.Cause.{Cause}
use Rattle.sv_constraints.specs.declared.cause.Cause.TheVariants as cause
use Rattle.sv_constraints.specs.declared.owned_decision.OwnedDecision.{OwnedDecision}
use Rattle.sv_constraints.specs.declared.owned_decision.OwnedDecision.TheVariants.{Open, Login, Denied}
use Rattle.sv_constraints.specs.declared.owned_decision.OwnedWhy.{OwnedWhy}
use Rattle.sv_constraints.specs.declared.constraint.Rules.{Rules}

-- The least number of the constraints, if there is one.
abbrev pub least_number : List Constraint → Option ℕ
least_number members = reduce min (map (λ member. member.number) members)

-- The least number of the constraints that pass the test, if any.
abbrev pub least_where : (Constraint → Bool) → List Constraint → Option ℕ
least_where test members = least_number (filter test members)

-- Whether there is an authorization constraint, and its list of roles is empty.
abbrev pub names_nobody : Auth → Bool
names_nobody Absent = false
names_nobody (Roles names) = length names == 0

-- Whether there is no authorization constraint.
abbrev pub is_absent : Auth → Bool
is_absent Absent = true
is_absent (Roles names) = false

-- Whether a plain connection is sufficient.
abbrev pub allows_plain : Transport → Bool
allows_plain transport.Absent = true
allows_plain transport.Plain = true
allows_plain transport.Integral = false
allows_plain transport.Confidential = false

-- The tests of a constraint in the table.
abbrev pub precludes : Constraint → Bool
precludes constraint = names_nobody constraint.auth

abbrev pub permits_plain : Constraint → Bool
permits_plain constraint = allows_plain constraint.transport

abbrev pub is_open : Constraint → Bool
is_open constraint = is_absent constraint.auth

abbrev pub admits_caller : Rules → Option Caller → Constraint → Bool
admits_caller rules caller constraint = admits rules.declared caller constraint.auth

-- The verdict of the first row whose test holds, or the last verdict if none does.
abbrev pub first_case : List (Bool × OwnedDecision) → OwnedDecision → OwnedDecision
first_case [] last = last
first_case (row ∷ rows) last = cond row.0 row.1 (first_case rows last)

-- The reason at a best pattern.
abbrev pub because : Option (List ℕ) → Option ℕ → Cause → OwnedWhy
because pattern number cause = record { pattern = pattern; number = number; cause = cause }

-- An uncovered request passes, unless such requests are denied.
abbrev pub uncovered : Rules → OwnedWhy → OwnedDecision
uncovered rules grounds = if rules.deny_uncovered then Denied grounds else Open grounds

-- The table for the text of the best pattern and the constraints that cover the method there.
abbrev pub cases : Rules → Option Caller → Option (List ℕ) → List Constraint → List (Bool × OwnedDecision)
cases rules caller pattern members =
    (is_none pattern, Open (because pattern None cause.NoPattern))
    ∷ (length members == 0, uncovered rules (because pattern None cause.Uncovered))
    ∷ (list_any precludes members, Denied (because pattern (least_where precludes members) cause.Precluded))
    ∷ (not (list_any permits_plain members), Denied (because pattern (least_number members) cause.Transport))
    ∷ (list_any is_open members, Open (because pattern (least_where is_open members) cause.Unauthenticated))
    ∷ (is_none caller, Login (because pattern (least_number members) cause.NeedsCaller))
    ∷ (list_any (admits_caller rules caller) members, Open (because pattern (least_where (admits_caller rules caller) members) cause.Role))
    ∷ []

abbrev pub verdict_at : Rules → Option Caller → Option (List ℕ) → List Constraint → OwnedDecision
verdict_at rules caller pattern members =
    first_case (cases rules caller pattern members) (Denied (because pattern (least_number members) cause.NoRole))

-- The verdict on a request.
abbrev pub verdict : List Constraint → Rules → List ℕ → List ℕ → Option Caller → OwnedDecision
verdict constraints rules method path caller =
    let pattern = best_pattern (all_patterns constraints) path in verdict_at rules caller pattern (covering constraints pattern method)
