-- The cell by the findings is that of the constraints.
use Rattle.std.proofs.Common.{◌≡◌, ℕ, Bool, true, false, not, List, length, refl, ap, ap₂, sym, ◌∙◌, cond, Option, None, Some, ◌==◌}
use Rattle.std.specs.List.{list_any}
use Rattle.sv_realm.specs.declared.caller.Caller.{Caller}
use Rattle.sv_constraints.proofs.Least.{none_number, some_where}
use Rattle.sv_constraints.specs.Decision.{why_of}
use Rattle.sv_constraints.specs.Findings.{findings_of}
use Rattle.sv_constraints.specs.Verdict.{because, is_open, least_number, least_where, permits_plain, precludes, uncovered}
use Rattle.sv_constraints.specs.declared.cause.Cause.TheVariants as cause
use Rattle.sv_constraints.specs.declared.constraint.Constraint.{Constraint}
use Rattle.sv_constraints.specs.declared.constraint.Rules.{Rules}
use Rattle.sv_constraints.specs.declared.findings.Findings.{Findings}
use Rattle.sv_constraints.specs.declared.owned_decision.OwnedDecision.{OwnedDecision}
use Rattle.sv_constraints.specs.declared.owned_decision.OwnedDecision.TheVariants.{Open, Denied}
use Rattle.sv_audit.proofs.FittingLemmas.{callers, decides}
use Rattle.sv_audit.specs.Access.{asking, cell_for, found_cell, login_access, login_number, uncovered_access}
use Rattle.sv_audit.specs.declared.access.Access.{Access}
use Rattle.sv_audit.specs.declared.access.Access.TheVariants.{Uncovered, UncoveredDenied, Precluded, NeedsTls, Everyone}
use Rattle.sv_audit.specs.declared.access.Cell.{Cell}
use Rattle.sv_audit.specs.declared.access.CellCaller.{CellCaller}

abbrev made : Access → Option ℕ → Cell
made its_access its_number = record { access = its_access; constraint = its_number }

-- The cell if it is decided, or else that of callers.
abbrev whole : Option Cell → Cell → Cell
whole None last = last
whole (Some cell) last = cell

-- The cell of the first case that holds.
step : (whose : Access → Option Caller) (b : Bool) (x y : Access) (u v : Option Caller → OwnedDecision) (found rest : Option Cell) (last : Cell) → made x (why_of (u (whose x))).number ≡ whole found last → made y (why_of (v (whose y))).number ≡ whole rest last
    → made (cond b x y) (why_of (cond b (u (whose (cond b x y))) (v (whose (cond b x y))))).number ≡ whole (cond b found rest) last
step whose true x y u v found rest last first below = first
step whose false x y u v found rest last first below = below

-- No caller fits an uncovered request, and no constraint decides it.
uncovered_cell : (rules : Rules) (pattern : Option (List ℕ)) (denied : Bool) → made (cond denied UncoveredDenied Uncovered) (why_of (cond denied (Denied (because pattern None cause.Uncovered)) (Open (because pattern None cause.Uncovered)))).number ≡ made (cond denied UncoveredDenied Uncovered) None
uncovered_cell rules pattern true = refl
uncovered_cell rules pattern false = refl

module _ (whose : CellCaller) (rules : Rules) (pattern : List ℕ) (members : List Constraint) where
  abbrev last : Cell
  last = made (login_access rules members) (login_number whose rules (least_number members) members)

  abbrev fifth : Option Caller → OwnedDecision
  fifth caller = callers rules (Some pattern) members caller

  abbrev fourth : Option Caller → OwnedDecision
  fourth caller = cond (list_any is_open members) (Open (because (Some pattern) (least_where is_open members) cause.Unauthenticated)) (fifth caller)

  abbrev third : Option Caller → OwnedDecision
  third caller = cond (not (list_any permits_plain members)) (Denied (because (Some pattern) (least_number members) cause.Transport)) (fourth caller)

  abbrev second : Option Caller → OwnedDecision
  second caller = cond (list_any precludes members) (Denied (because (Some pattern) (least_where precludes members) cause.Precluded)) (third caller)

  cell_is : cell_for (asking whose) rules (Some pattern) members ≡ whole (found_cell rules (findings_of rules None members)) last
  unfolding cell_for
  cell_is =
      rw (none_number members, some_where precludes members, some_where is_open members)
      (step (asking whose) (length members == 0) (uncovered_access rules) _ (λ caller. uncovered rules (because (Some pattern) None cause.Uncovered)) second (Some (made (uncovered_access rules) None)) _ last (uncovered_cell rules (Some pattern) rules.deny_uncovered)
      (step (asking whose) (list_any precludes members) Precluded _ (λ caller. Denied (because (Some pattern) (least_where precludes members) cause.Precluded)) third (Some (made Precluded (least_where precludes members))) _ last refl
      (step (asking whose) (not (list_any permits_plain members)) NeedsTls _ (λ caller. Denied (because (Some pattern) (least_number members) cause.Transport)) fourth (Some (made NeedsTls (least_number members))) _ last refl
      (step (asking whose) (list_any is_open members) Everyone _ (λ caller. Open (because (Some pattern) (least_where is_open members) cause.Unauthenticated)) fifth (Some (made Everyone (least_where is_open members))) None last refl
      (ap (made (login_access rules members)) (decides rules (Some pattern) members whose))))))

  pub decided_cell : (found : Findings) (decided : Option Cell) (cell : Cell) → found ≡ findings_of rules None members → decided ≡ found_cell rules found → decided ≡ Some cell → cell ≡ cell_for (asking whose) rules (Some pattern) members
  decided_cell found decided cell are is some =
      sym (cell_is ∙ ap (λ c. whole c last) (sym (is ∙ ap (found_cell rules) are) ∙ some))

  pub login_cell : (found : Findings) (decided : Option Cell) (access : Access) (number : Option ℕ) → found ≡ findings_of rules None members → decided ≡ found_cell rules found → decided ≡ None
      → access ≡ login_access rules members → number ≡ login_number whose rules found.covering members → made access number ≡ cell_for (asking whose) rules (Some pattern) members
  login_cell found decided access number are is none logins numbered =
      ap₂ made logins (numbered ∙ ap (λ (f : Findings). login_number whose rules f.covering members) are)
      ∙ sym (cell_is ∙ ap (λ c. whole c last) (sym (is ∙ ap (found_cell rules) are) ∙ none))
