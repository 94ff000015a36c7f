-- The outcome of a message that has reached its context (Jakarta Servlet 6.0, sections 10.5, 13.6.3 and 13.8).
use Rattle.std.specs.Prelude.{Bool, true, false, Option, None, Some, is_some, option_and_then, unwrap_or, if◌then◌else◌}
use Rattle.sv_constraints.specs.declared.owned_decision.OwnedDecision.{OwnedDecision}
use Rattle.sv_constraints.specs.declared.owned_decision.OwnedDecision.TheVariants as decisions
use Rattle.sv_login.specs.declared.step.LoginOutcome.{LoginOutcome}
use Rattle.sv_login.specs.declared.step.LoginOutcome.TheVariants as logins
use Rattle.sv_login.specs.declared.outcome.Outcome.{Outcome}
use Rattle.sv_login.specs.declared.outcome.Outcome.TheVariants.{Protected, LoggedIn, LoginFailed, NoSession, Entered, SentToLogin, NoLogin, Denied}

-- The findings for a message: whether its path is protected, the outcome of the login step if the context has form
-- login, and the verdict.
pub record Findings : Type 0 where
  pub is_protected : Bool
  pub login : Option LoginOutcome
  pub verdict : OwnedDecision

-- The outcome of a login step. A message that is not a login post has none.
abbrev pub login_outcome : LoginOutcome → Option Outcome
login_outcome (logins.Passed number target) = Some (LoggedIn number target)
login_outcome logins.WrongUser = Some LoginFailed
login_outcome logins.NoSession = Some NoSession
login_outcome logins.NotLogin = None

-- The outcome of a verdict, with or without form login.
abbrev pub verdict_outcome : Bool → OwnedDecision → Outcome
verdict_outcome has_login (decisions.Open why) = Entered
verdict_outcome true (decisions.Login why) = SentToLogin why
verdict_outcome false (decisions.Login why) = NoLogin why
verdict_outcome has_login (decisions.Denied why) = Denied why

-- The tests in order: the protected path, the login post, the verdict.
abbrev pub outcome : Findings → Outcome
outcome found =
    if found.is_protected then Protected
    else unwrap_or (option_and_then login_outcome found.login) (verdict_outcome (is_some found.login) found.verdict)
