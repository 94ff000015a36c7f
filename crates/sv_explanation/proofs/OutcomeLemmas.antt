-- The outcome that a treatment names.
use Rattle.std.proofs.Common.{◌≡◌, ℕ, Bool, true, false, not, ◌&&◌, List, Option, Some, None, refl, ap, ◌∙◌, cond}
use Rattle.std.specs.Prelude.{is_some, unwrap_or, option_and_then}
use Rattle.std.specs.Option.{option_map}
use Rattle.sv_constraints.specs.Decision.{why_of}
use Rattle.sv_constraints.specs.Verdict.{verdict}
use Rattle.sv_constraints.specs.declared.owned_decision.OwnedDecision.{OwnedDecision}
use Rattle.sv_constraints.specs.declared.owned_decision.OwnedDecision.TheVariants.{Open, Login, Denied}
use Rattle.sv_constraints.specs.declared.owned_decision.OwnedWhy.{OwnedWhy}
use Rattle.sv_descriptor.specs.declared.login.FormLogin.{FormLogin}
use Rattle.sv_descriptor.specs.declared.web_app.WebApp.{WebApp}
use Rattle.sv_login.specs.Outcome.{login_outcome, outcome, verdict_outcome}
use Rattle.sv_login.specs.declared.step.LoginOutcome.TheVariants.{NotLogin}
use Rattle.sv_files.specs.declared.files.File.{File}
use Rattle.sv_mapping.specs.Protected.{is_protected}
use Rattle.sv_uri.specs.declared.path.Canon.{Canon}
use Rattle.sv_explanation.specs.Callers.{caller_by, caller_of}
use Rattle.sv_explanation.specs.Laws.{findings, is_login_post, outcome_by, outcome_named}
use Rattle.sv_explanation.specs.ContextFiles.{known_files}
use Rattle.sv_explanation.specs.Pages.{error_page}
use Rattle.sv_explanation.specs.Treatment.{answer, by_login, is_post, judged, login_answer, treatment}
use Rattle.sv_explanation.specs.declared.page.Page.{Page}
use Rattle.sv_explanation.specs.declared.explanation.JudgedRequest.{JudgedRequest}
use Rattle.sv_explanation.specs.declared.explanation.LoginAnswers.{LoginAnswers}
use Rattle.sv_explanation.specs.declared.explanation.Treatment.{Treatment}
use Rattle.sv_explanation.specs.declared.explanation.Treatment.TheVariants.{Hidden, LoginPost, Judged}
use Rattle.sv_explanation.specs.declared.site_context.AskedCaller.{AskedCaller}
use Rattle.sv_explanation.specs.declared.site_context.AskedCaller.TheVariants as asked
use Rattle.sv_explanation.specs.declared.site_context.SiteContext.{SiteContext}
use Rattle.sv_explanation.specs.declared.statuses.TheConstants.{NOT_FOUND}

-- The answer if a login is needed names the outcome of that verdict.
login_named : (app : WebApp) (files : Option (List File)) (method : List ℕ) (login : Option FormLogin) (why : OwnedWhy)
    → outcome_by why (login_answer app files method login) ≡ verdict_outcome (is_some login) (Login why)
login_named app files method None why = refl
login_named app files method (Some pages) why = refl

-- So does each answer.
answer_named : (context : SiteContext) (files : Option (List File)) (method : List ℕ) (canon : Canon) (decided : OwnedDecision)
    → outcome_by (why_of decided) (answer context files method canon decided) ≡ verdict_outcome (is_some context.descriptor.login) decided
answer_named context files method canon (Open why) = refl
answer_named context files method canon (Login why) = login_named context.descriptor files method context.descriptor.login why
answer_named context files method canon (Denied why) = refl

-- Without a login post, the verdict decides.
verdict_decides : (login : Option FormLogin) (decided : OwnedDecision)
    → verdict_outcome (is_some login) decided
    ≡ unwrap_or (option_and_then login_outcome (option_map (λ pages. NotLogin) login)) (verdict_outcome (is_some (option_map (λ pages. NotLogin) login)) decided)
verdict_decides None decided = refl
verdict_decides (Some pages) decided = refl

-- If nobody can log in, there is no caller.
pub no_caller : (can_log_in : Bool) (caller : AskedCaller) → can_log_in ≡ false → caller_by can_log_in caller ≡ None
no_caller can_log_in asked.Nobody is = refl
no_caller true (asked.Known caller) is = cc
no_caller false (asked.Known caller) is = refl
no_caller can_log_in (asked.Unknown name) is = refl

no_post : (b : Bool) (its_answers : LoginAnswers) (request : JudgedRequest) → b ≡ false → cond b (LoginPost its_answers) (Judged request) ≡ Judged request
no_post true its_answers request is = cc
no_post false its_answers request is = refl

-- A message that is no login post is judged.
is_judged : (context : SiteContext) (files : Option (List File)) (method : List ℕ) (canon : Canon) (login : Option FormLogin)
    → (is_some login && is_post method canon.path) ≡ false → by_login context files method canon login ≡ Judged (judged context files method canon)
is_judged context files method canon None is = refl
is_judged context files method canon (Some pages) is = no_post (is_post method canon.path) _ (judged context files method canon) is

shown : (hidden : Bool) (page : Option Page) (treated : Treatment) (login : Option FormLogin) (decided : OwnedDecision)
    → outcome_named treated ≡ Some (verdict_outcome (is_some login) decided)
    → outcome_named (cond hidden (Hidden page) treated)
    ≡ Some (outcome (record { is_protected = hidden; login = option_map (λ pages. NotLogin) login; verdict = decided }))
shown true page treated login decided is = refl
shown false page treated login decided is = is ∙ ap Some (verdict_decides login decided)

pub outcomes : (context : SiteContext) (method : List ℕ) (canon : Canon) → (is_some context.descriptor.login && is_post method canon.path) ≡ false
    → outcome_named (treatment context method canon) ≡ Some (outcome (findings context method canon.path))
outcomes context method canon is =
    let decided = verdict context.constraints context.descriptor.rules method canon.path (caller_of context) in
    let files = known_files context in
    shown (is_protected canon.path) (error_page context.descriptor files NOT_FOUND) (by_login context files method canon context.descriptor.login) context.descriptor.login decided
    (ap outcome_named (is_judged context files method canon context.descriptor.login is) ∙ ap Some (answer_named context files method canon decided))

post_shown : (b : Bool) (its_answers : LoginAnswers) (request : JudgedRequest) → is_login_post (cond b (LoginPost its_answers) (Judged request)) ≡ b
post_shown true its_answers request = refl
post_shown false its_answers request = refl

login_shown : (context : SiteContext) (files : Option (List File)) (method : List ℕ) (canon : Canon) (login : Option FormLogin)
    → is_login_post (by_login context files method canon login) ≡ (is_some login && is_post method canon.path)
login_shown context files method canon None = refl
login_shown context files method canon (Some pages) = post_shown (is_post method canon.path) _ (judged context files method canon)

unhidden : (hidden : Bool) (page : Option Page) (treated : Treatment) (b : Bool) → is_login_post treated ≡ b
    → is_login_post (cond hidden (Hidden page) treated) ≡ (not hidden && b)
unhidden true page treated b is = refl
unhidden false page treated b is = is

pub login_posts : (context : SiteContext) (method : List ℕ) (canon : Canon)
    → is_login_post (treatment context method canon) ≡ (not (is_protected canon.path) && (is_some context.descriptor.login && is_post method canon.path))
login_posts context method canon =
    let files = known_files context in
    unhidden (is_protected canon.path) (error_page context.descriptor files NOT_FOUND) (by_login context files method canon context.descriptor.login) _
    (login_shown context files method canon context.descriptor.login)
