-- The conditions of the outcomes of a message, independent of their order (Jakarta Servlet 6.0, sections 10.5, 13.6.3
-- and 13.8).
use Rattle.std.specs.Prelude.{◌≡◌, ◌↔◌, ◌⊎◌, true, false, None, Some}
use Rattle.sv_constraints.specs.declared.owned_decision.OwnedWhy.{OwnedWhy}
use Rattle.sv_constraints.specs.declared.owned_decision.OwnedDecision.TheVariants as decisions
use Rattle.sv_login.specs.declared.step.LoginOutcome.{LoginOutcome}
use Rattle.sv_login.specs.declared.step.LoginOutcome.TheVariants as logins
use Rattle.sv_login.specs.declared.outcome.Outcome.{Outcome}
use Rattle.sv_login.specs.declared.outcome.Outcome.TheVariants.{Protected, LoggedIn, LoginFailed, NoSession, Entered, SentToLogin, NoLogin, Denied}
use Rattle.sv_login.specs.Outcome.{Findings, outcome}

-- A path that is not protected, and a login step with this outcome.
abbrev pub IsLogin : Findings → LoginOutcome → Type 0
IsLogin found login = (found.is_protected ≡ false) × (found.login ≡ Some login)

-- Neither a protected path nor a login post.
abbrev pub IsOrdinary : Findings → Type 0
IsOrdinary found = (found.is_protected ≡ false) × ((found.login ≡ None) ⊎ (found.login ≡ Some logins.NotLogin))

-- The condition of an outcome.
abbrev pub IsCase : Findings → Outcome → Type 0
IsCase found Protected = found.is_protected ≡ true
IsCase found (LoggedIn number target) = IsLogin found (logins.Passed number target)
IsCase found LoginFailed = IsLogin found logins.WrongUser
IsCase found NoSession = IsLogin found logins.NoSession
IsCase found Entered = IsOrdinary found × ((why : OwnedWhy) × (found.verdict ≡ decisions.Open why))
IsCase found (SentToLogin why) = IsLogin found logins.NotLogin × (found.verdict ≡ decisions.Login why)
IsCase found (NoLogin why) = (found.is_protected ≡ false) × (found.login ≡ None) × (found.verdict ≡ decisions.Login why)
IsCase found (Denied why) = IsOrdinary found × (found.verdict ≡ decisions.Denied why)

-- A condition holds exactly if it is that of the outcome.
abbrev pub JustOneCaseHolds : Type 0
JustOneCaseHolds = (found : Findings) (other : Outcome) → IsCase found other ↔ (outcome found ≡ other)

abbrev pub EntersExactlyByAnOpenVerdict : Type 0
EntersExactlyByAnOpenVerdict = (found : Findings)
    → (outcome found ≡ Entered) ↔ (IsOrdinary found × ((why : OwnedWhy) × (found.verdict ≡ decisions.Open why)))
