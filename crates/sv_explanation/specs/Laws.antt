-- Laws of explanations (Jakarta Servlet 6.0, sections 10.5, 12.1, 13.6.3 and 13.8).
use Rattle.std.specs.Prelude.{◌≡◌, ◌==◌, ℕ, Bool, true, false, not, ◌&&◌, List, [], filter, map, Option, None, Some, is_some, unwrap_or}
use Rattle.std.specs.List.{list_any}
use Rattle.std.specs.Option.{option_map}
use Rattle.sv_constraints.specs.Covering.{all_patterns, covering}
use Rattle.sv_constraints.specs.Decision.{why_of}
use Rattle.sv_constraints.specs.Verdict.{verdict}
use Rattle.sv_constraints.specs.declared.owned_decision.OwnedWhy.{OwnedWhy}
use Rattle.sv_login.specs.Outcome.{Findings, outcome}
use Rattle.sv_login.specs.Post.{is_login, post_of}
use Rattle.sv_login.specs.declared.outcome.Outcome.{Outcome}
use Rattle.sv_login.specs.declared.outcome.Outcome.TheVariants as outcomes
use Rattle.sv_login.specs.declared.step.LoginOutcome.TheVariants.{NotLogin}
use Rattle.sv_mapping.specs.BestMatch.{best_pattern}
use Rattle.sv_mapping.specs.Protected.{is_protected}
use Rattle.sv_uri.specs.declared.path.Canon.{Canon}
use Rattle.sv_explanation.specs.Callers.{caller_of, can_log_in}
use Rattle.sv_explanation.specs.ContextFiles.{known_files}
use Rattle.sv_explanation.specs.Listed.{listed_constraint}
use Rattle.sv_explanation.specs.Treatment.{judged, treatment}
use Rattle.sv_explanation.specs.declared.explanation.Answer.{Answer}
use Rattle.sv_explanation.specs.declared.explanation.Answer.TheVariants as answers
use Rattle.sv_explanation.specs.declared.explanation.JudgedRequest.{JudgedRequest}
use Rattle.sv_explanation.specs.declared.explanation.Treatment.{Treatment}
use Rattle.sv_explanation.specs.declared.explanation.Treatment.TheVariants.{Hidden, LoginPost, Judged}
use Rattle.sv_explanation.specs.declared.listed_constraint.ListedConstraint.{ListedConstraint}
use Rattle.sv_explanation.specs.declared.site_context.SiteContext.{SiteContext}

-- The outcome that an answer names, for this reason.
abbrev pub outcome_by : OwnedWhy → Answer → Outcome
outcome_by why (answers.Enters filters responder) = outcomes.Entered
outcome_by why (answers.LoginPage page is_saved) = outcomes.SentToLogin why
outcome_by why (answers.NoLogin page) = outcomes.NoLogin why
outcome_by why (answers.Denied page) = outcomes.Denied why

-- The outcome that a treatment names; none for a login post, whose outcome depends on its body and the sessions.
abbrev pub outcome_named : Treatment → Option Outcome
outcome_named (Hidden page) = Some outcomes.Protected
outcome_named (LoginPost its_answers) = None
outcome_named (Judged request) = Some (outcome_by (why_of request.decision) request.answer)

abbrev pub is_login_post : Treatment → Bool
is_login_post (Hidden page) = false
is_login_post (LoginPost its_answers) = true
is_login_post (Judged request) = false

-- The findings about a message that is no login post.
abbrev pub findings : SiteContext → List ℕ → List ℕ → Findings
findings context method path = record {
  is_protected = is_protected path;
  login = option_map (λ pages. NotLogin) context.descriptor.login;
  verdict = verdict context.constraints context.descriptor.rules method path (caller_of context);
}

-- Whether a message is a login post, whatever its body, and its context has form login.
abbrev pub takes_login : SiteContext → List ℕ → List ℕ → Option (List ℕ) → List ℕ → Bool
takes_login context method path content_type body = is_some context.descriptor.login && is_login (post_of method path content_type body)

-- The treatment of each message that is no login post names the server's outcome.
abbrev pub OutcomesAreTheServers : Type 0
OutcomesAreTheServers = (context : SiteContext) (method : List ℕ) (canon : Canon) (content_type : Option (List ℕ)) (body : List ℕ)
    → takes_login context method canon.path content_type body ≡ false
    → outcome_named (treatment context method canon) ≡ Some (outcome (findings context method canon.path))

-- A request that the constraints decide, in a context whose files may be known.
abbrev pub judged_in : SiteContext → List ℕ → Canon → JudgedRequest
judged_in context method canon = judged context (known_files context) method canon

-- If nobody can log in, the constraints decide as on a request without a caller.
abbrev pub CallersCanLogIn : Type 0
CallersCanLogIn = (context : SiteContext) (method : List ℕ) (canon : Canon)
    → can_log_in context ≡ false
    → (judged_in context method canon).decision ≡ verdict context.constraints context.descriptor.rules method canon.path None

-- A message is explained as a login post exactly if it is one, its context has form login, and its path is not hidden.
abbrev pub LoginPostsAreExplained : Type 0
LoginPostsAreExplained = (context : SiteContext) (method : List ℕ) (canon : Canon) (content_type : Option (List ℕ)) (body : List ℕ)
    → is_login_post (treatment context method canon) ≡ (not (is_protected canon.path) && takes_login context method canon.path content_type body)

-- The pattern of the decision is the best pattern of the path.
abbrev pub PatternsAreBest : Type 0
PatternsAreBest = (context : SiteContext) (method : List ℕ) (canon : Canon)
    → (why_of (judged_in context method canon).decision).pattern ≡ best_pattern (all_patterns context.constraints) canon.path

-- The constraints that are listed as covering.
abbrev pub covering_listed : List ListedConstraint → List ListedConstraint
covering_listed listed = filter (λ constraint. constraint.is_covering) listed

-- They are the constraints that cover the method at the best pattern, in order.
abbrev pub CoveringIsExact : Type 0
CoveringIsExact = (context : SiteContext) (method : List ℕ) (canon : Canon) → let pattern = best_pattern (all_patterns context.constraints) canon.path in
    covering_listed (judged_in context method canon).constraints
    ≡ map (listed_constraint context (unwrap_or pattern []) method) (covering context.constraints pattern method)

-- If a constraint decides, it is listed as covering.
abbrev pub DecidingIsListed : Type 0
DecidingIsListed = (context : SiteContext) (method : List ℕ) (canon : Canon) (number : ℕ)
    → (why_of (judged_in context method canon).decision).number ≡ Some number
    → list_any (λ listed. listed.number == number) (covering_listed (judged_in context method canon).constraints) ≡ true
