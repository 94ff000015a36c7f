-- The condition of the outcome of a message holds, and no other.
use Rattle.std.proofs.Common.{◌≡◌, Bool, true, false, inl, inr, Option, Some, None, refl, subst}
use Rattle.sv_constraints.specs.declared.owned_decision.OwnedDecision.{OwnedDecision}
use Rattle.sv_constraints.specs.declared.owned_decision.OwnedDecision.TheVariants as decisions
use Rattle.sv_login.specs.declared.step.LoginOutcome.{LoginOutcome}
use Rattle.sv_login.specs.declared.step.LoginOutcome.TheVariants as logins
use Rattle.sv_login.specs.declared.outcome.Outcome.{Outcome}
use Rattle.sv_login.specs.declared.outcome.Outcome.TheVariants.{Protected, LoggedIn, LoginFailed, NoSession, Entered, SentToLogin, NoLogin, Denied}
use Rattle.sv_login.specs.Outcome.{Findings, outcome}
use Rattle.sv_login.specs.OutcomeLaws.{IsCase}

-- The condition of the outcome holds.
holds_by : (is_protected : Bool) (login : Option LoginOutcome) (verdict : OwnedDecision)
    → IsCase (record { is_protected = is_protected; login = login; verdict = verdict }) (outcome (record { is_protected = is_protected; login = login; verdict = verdict }))
holds_by true login verdict = refl
holds_by false (Some (logins.Passed number target)) verdict = (refl, refl)
holds_by false (Some logins.WrongUser) verdict = (refl, refl)
holds_by false (Some logins.NoSession) verdict = (refl, refl)
holds_by false (Some logins.NotLogin) (decisions.Open why) = ((refl, inr refl), (why, refl))
holds_by false (Some logins.NotLogin) (decisions.Login why) = ((refl, refl), refl)
holds_by false (Some logins.NotLogin) (decisions.Denied why) = ((refl, inr refl), refl)
holds_by false None (decisions.Open why) = ((refl, inl refl), (why, refl))
holds_by false None (decisions.Login why) = (refl, refl, refl)
holds_by false None (decisions.Denied why) = ((refl, inl refl), refl)

pub holds : (found : Findings) (other : Outcome) → outcome found ≡ other → IsCase found other
holds found other same = subst (IsCase found) same (holds_by found.is_protected found.login found.verdict)

-- The outcome is determined by the values of the findings.
from_parts : (found : Findings) (is_protected : Bool) (login : Option LoginOutcome) (verdict : OwnedDecision)
    → found.is_protected ≡ is_protected → found.login ≡ login → found.verdict ≡ verdict
    → outcome found ≡ outcome (record { is_protected = is_protected; login = login; verdict = verdict })
from_parts found is_protected login verdict p l v = rw (p, l, v) refl

-- A condition that holds is that of the outcome.
pub tells : (found : Findings) (other : Outcome) → IsCase found other → outcome found ≡ other
tells found Protected case = from_parts found true found.login found.verdict case refl refl
tells found (LoggedIn number target) case = from_parts found false (Some (logins.Passed number target)) found.verdict case.0 case.1 refl
tells found LoginFailed case = from_parts found false (Some logins.WrongUser) found.verdict case.0 case.1 refl
tells found NoSession case = from_parts found false (Some logins.NoSession) found.verdict case.0 case.1 refl
tells found (SentToLogin why) case = from_parts found false (Some logins.NotLogin) (decisions.Login why) case.0.0 case.0.1 case.1
tells found (NoLogin why) case = from_parts found false None (decisions.Login why) case.0 case.1 case.2
tells found Entered case = elim case.0.1 [
  | inl none ↦ from_parts found false None (decisions.Open case.1.0) case.0.0 none case.1.1
  | inr other ↦ from_parts found false (Some logins.NotLogin) (decisions.Open case.1.0) case.0.0 other case.1.1
]
tells found (Denied why) case = elim case.0.1 [
  | inl none ↦ from_parts found false None (decisions.Denied why) case.0.0 none case.1
  | inr other ↦ from_parts found false (Some logins.NotLogin) (decisions.Denied why) case.0.0 other case.1
]
