-- The findings of a pass over the constraints: the numbers and tests that the table of the verdict needs.
use Rattle.std.specs.Prelude.{ℕ, List, [], ◌∷◌, ◌||◌, not, min, Option, None, Some, is_none, is_some}
use Rattle.std.specs.Bool.{then_some}
use Rattle.std.specs.List.{list_any}
use Rattle.sv_realm.specs.declared.caller.Caller.{Caller}
use Rattle.sv_constraints.specs.Verdict.{least_number, least_where, precludes, permits_plain, is_open, admits_caller, first_case, because, uncovered}
use Rattle.sv_constraints.specs.declared.cause.Cause.TheVariants as cause
use Rattle.sv_constraints.specs.declared.constraint.Constraint.{Constraint}
use Rattle.sv_constraints.specs.declared.findings.Findings.{Findings}
use Rattle.sv_constraints.specs.declared.owned_decision.OwnedDecision.{OwnedDecision}
use Rattle.sv_constraints.specs.declared.owned_decision.OwnedDecision.TheVariants.{Open, Login, Denied}
use Rattle.sv_constraints.specs.declared.constraint.Rules.{Rules}

-- The findings for the constraints that cover a request.
abbrev pub findings_of : Rules → Option Caller → List Constraint → Findings
findings_of rules caller members = record {
  covering = least_number members;
  precluding = least_where precludes members;
  permits_plain = list_any permits_plain members;
  unauthenticated = least_where is_open members;
  admitting = least_where (admits_caller rules caller) members;
}

-- The lesser of two numbers, or the only one present, if any.
abbrev pub lesser : Option ℕ → Option ℕ → Option ℕ
lesser None other = other
lesser (Some number) None = Some number
lesser (Some number) (Some other) = Some (min number other)

-- The findings after one more constraint.
abbrev pub with_one : Rules → Option Caller → Constraint → Findings → Findings
with_one rules caller constraint found = record {
  covering = lesser found.covering (Some constraint.number);
  precluding = lesser found.precluding (then_some (precludes constraint) constraint.number);
  permits_plain = found.permits_plain || permits_plain constraint;
  unauthenticated = lesser found.unauthenticated (then_some (is_open constraint) constraint.number);
  admitting = lesser found.admitting (then_some (admits_caller rules caller constraint) constraint.number);
}

-- The table of the verdict, applied to findings.
abbrev pub decided : Rules → Option Caller → Option (List ℕ) → Findings → OwnedDecision
decided rules caller pattern found = first_case
    ((is_none found.covering, uncovered rules (because pattern None cause.Uncovered))
    ∷ (is_some found.precluding, Denied (because pattern found.precluding cause.Precluded))
    ∷ (not found.permits_plain, Denied (because pattern found.covering cause.Transport))
    ∷ (is_some found.unauthenticated, Open (because pattern found.unauthenticated cause.Unauthenticated))
    ∷ (is_none caller, Login (because pattern found.covering cause.NeedsCaller))
    ∷ (is_some found.admitting, Open (because pattern found.admitting cause.Role))
    ∷ [])
    (Denied (because pattern found.covering cause.NoRole))
