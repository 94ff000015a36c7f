-- Theorems about the verdict (Jakarta Servlet 6.0, section 13.8).
use Rattle.std.specs.Prelude.{◌≡◌, ℕ, Bool, true, not, ◌&&◌, ◌==◌, List, [], ◌∷◌, ◌++◌, length, filter, Option, None, Some, is_none}
use Rattle.std.specs.Bool.{then_some}
use Rattle.std.specs.List.{list_any}
use Rattle.sv_mapping.specs.BestMatch.{best_pattern}
use Rattle.sv_realm.specs.declared.caller.Caller.{Caller}
use Rattle.sv_constraints.specs.Covering.{covering, all_patterns}
use Rattle.sv_constraints.specs.Findings.{decided, findings_of, lesser, with_one}
use Rattle.sv_constraints.specs.Verdict.{least_number, least_where, precludes, permits_plain, is_open, admits_caller, because, uncovered, verdict, verdict_at}
use Rattle.sv_constraints.specs.declared.constraint.Constraint.{Constraint}
use Rattle.sv_constraints.specs.declared.cause.Cause.TheVariants.{NoPattern, Uncovered, Precluded, Transport, Unauthenticated, NeedsCaller, Role, NoRole}
use Rattle.sv_constraints.specs.declared.owned_decision.OwnedDecision.{OwnedDecision}
use Rattle.sv_constraints.specs.declared.owned_decision.OwnedDecision.TheVariants.{Open, Login, Denied}
use Rattle.sv_constraints.specs.declared.constraint.Rules.{Rules}

-- The eight cases, each with its full condition: it holds, and no earlier case does.
abbrev pub full_cases : Rules → Option Caller → Option (List ℕ) → List Constraint → List (Bool × OwnedDecision)
full_cases rules caller pattern members =
    (is_none pattern, Open (because pattern None NoPattern))
    ∷ (matched && length members == 0, uncovered rules (because pattern None Uncovered))
    ∷ (covered && list_any precludes members, Denied (because pattern (least_where precludes members) Precluded))
    ∷ (unprecluded && not (list_any permits_plain members), Denied (because pattern (least_number members) Transport))
    ∷ (carried && list_any is_open members, Open (because pattern (least_where is_open members) Unauthenticated))
    ∷ (closed && is_none caller, Login (because pattern (least_number members) NeedsCaller))
    ∷ (known && list_any (admits_caller rules caller) members, Open (because pattern (least_where (admits_caller rules caller) members) Role))
    ∷ (known && not (list_any (admits_caller rules caller) members), Denied (because pattern (least_number members) NoRole))
    ∷ []
  where
    matched : Bool
    matched = not (is_none pattern)

    covered : Bool
    covered = matched && not (length members == 0)

    unprecluded : Bool
    unprecluded = covered && not (list_any precludes members)

    carried : Bool
    carried = unprecluded && not (not (list_any permits_plain members))

    closed : Bool
    closed = carried && not (list_any is_open members)

    known : Bool
    known = closed && not (is_none caller)

-- Exactly one of the eight cases holds, and it gives the verdict.
abbrev pub JustOneCaseHolds : Type 0
JustOneCaseHolds =
    (rules : Rules) (caller : Option Caller) (pattern : Option (List ℕ)) (members : List Constraint) →
    filter (λ row. row.0) (full_cases rules caller pattern members) ≡ (true, verdict_at rules caller pattern members) ∷ []

-- Lists of constraints with the same best pattern and the same covering constraints there give the same verdict.
abbrev pub OnlyTheBestPatternDecides : Type 0
OnlyTheBestPatternDecides =
    (constraints others : List Constraint) (rules : Rules) (method path : List ℕ) (caller : Option Caller) (pattern : Option (List ℕ)) →
    best_pattern (all_patterns constraints) path ≡ pattern → best_pattern (all_patterns others) path ≡ pattern →
    covering constraints pattern method ≡ covering others pattern method →
    verdict constraints rules method path caller ≡ verdict others rules method path caller

-- The least number of the constraints that pass a test, after one more constraint.
abbrev pub LeastOfOneMore : Type 0
LeastOfOneMore = (test : Constraint → Bool) (members : List Constraint) (constraint : Constraint) →
    least_where test (members ++ constraint ∷ []) ≡ lesser (least_where test members) (then_some (test constraint) constraint.number)

-- The findings after one more constraint.
abbrev pub FindingsOfOneMore : Type 0
FindingsOfOneMore = (rules : Rules) (caller : Option Caller) (members : List Constraint) (constraint : Constraint) →
    with_one rules caller constraint (findings_of rules caller members) ≡ findings_of rules caller (members ++ constraint ∷ [])

-- The findings for the constraints that cover a request at its best pattern give the verdict.
abbrev pub FindingsDecide : Type 0
FindingsDecide =
    (constraints : List Constraint) (rules : Rules) (method path : List ℕ) (caller : Option Caller) (pattern : List ℕ) →
    Some pattern ≡ best_pattern (all_patterns constraints) path →
    decided rules caller (Some pattern) (findings_of rules caller (covering constraints (Some pattern) method)) ≡ verdict constraints rules method path caller
