use Rattle.std.proofs.Common.{Option, not, sym, ◌∙◌, ap, subst}
use Rattle.sv_exchange.specs.Asked.{asked_in}
use Rattle.sv_admission.specs.Judged.{post_in}
use Rattle.sv_admission.proofs.Verdicts.{decided_so}
use Rattle.sv_constraints.specs.Verdict.{verdict}
use Rattle.sv_constraints.specs.declared.owned_decision.OwnedDecision.{OwnedDecision}
use Rattle.sv_mapping.specs.Protected.{is_protected}
use Rattle.sv_descriptor.specs.declared.login.FormLogin.{FormLogin}
use Rattle.sv_login.specs.Login.{login}
use Rattle.sv_login.specs.Outcome.{verdict_outcome}
use Rattle.sv_realm.specs.declared.caller.Caller.{Caller}
use Rattle.sv_admission.specs.Held.{caller_held}
use Rattle.std.specs.Prelude.{is_some}
use Rattle.sv_text.specs.Gives.{GivesAnswer}
use Rattle.sv_admission.proofs.judgment.judge.Goals as goal

pub returns-in-None-clause-outcome : goal.returns-in-None-clause-outcome
returns-in-None-clause-outcome c =
    let app = c.args.app.now in
    let standing = c.args.policy.now in
    let asked = asked_in c.args.request.now in
    let by : Option Caller → OwnedDecision = λ caller. verdict standing.constraints standing.rules asked.message.method asked.canon.path caller in
    subst (GivesAnswer c.decided-in-None.result)
    (ap (λ (caller : Option Caller). verdict_outcome (is_some app.login) (by caller)) c.caller_held-caller.ensures
    ∙ decided_so (is_protected asked.canon.path) app.login (λ (pages : FormLogin). login c.args.users.now (post_in asked) c.args.held asked.words asked.moment c.args.sessions.now.store)
    (by (caller_held c.args.users.now c.args.held c.args.sessions.now.store)) (ap is_protected (sym c.as_str.ensures) ∙ sym c.is_protected.ensures ∙ c.if-is_protected.false) (c.is_none.ensures ∙ ap not c.if-is_none.false)
    (λ pages. sym c.in_ok-login.ensures.outcome ∙ c.in-None.is))
    c.decided-in-None.ensures
