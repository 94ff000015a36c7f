-- What the server does with a request in its context, and why (Jakarta Servlet 6.0, sections 10.5, 10.9, 13.6.3 and
-- 13.8).
use Rattle.std.specs.Prelude.{ℕ, Bool, ◌++◌, List, [], Option, None, Some, codes, bytes_eq, if◌then◌else◌}
use Rattle.sv_constraints.specs.Decision.{why_of}
use Rattle.sv_constraints.specs.Verdict.{verdict}
use Rattle.sv_constraints.specs.declared.owned_decision.OwnedDecision.{OwnedDecision}
use Rattle.sv_constraints.specs.declared.owned_decision.OwnedDecision.TheVariants.{Open, Login, Denied}
use Rattle.sv_descriptor.specs.declared.login.FormLogin.{FormLogin}
use Rattle.sv_descriptor.specs.declared.web_app.WebApp.{WebApp}
use Rattle.sv_files.specs.declared.files.File.{File}
use Rattle.sv_login.specs.Post.{is_login, post_of}
use Rattle.sv_mapping.specs.Protected.{is_protected}
use Rattle.sv_uri.specs.LocationField.{location}
use Rattle.sv_uri.specs.declared.path.Canon.{Canon}
use Rattle.sv_explanation.specs.Callers.{caller_of, judged_caller}
use Rattle.sv_explanation.specs.ContextFiles.{known_files}
use Rattle.sv_explanation.specs.Entries.{enters}
use Rattle.sv_explanation.specs.Listed.{listed_on}
use Rattle.sv_explanation.specs.Pages.{error_page, forwarded_page}
use Rattle.sv_explanation.specs.declared.explanation.Answer.{Answer}
use Rattle.sv_explanation.specs.declared.explanation.Answer.TheVariants as answers
use Rattle.sv_explanation.specs.declared.explanation.JudgedRequest.{JudgedRequest}
use Rattle.sv_explanation.specs.declared.explanation.LoginAnswers.{LoginAnswers}
use Rattle.sv_explanation.specs.declared.explanation.Treatment.{Treatment}
use Rattle.sv_explanation.specs.declared.explanation.Treatment.TheVariants.{Hidden, LoginPost, Judged}
use Rattle.sv_explanation.specs.declared.site_context.SiteContext.{SiteContext}
use Rattle.sv_explanation.specs.declared.statuses.TheConstants.{FORBIDDEN, NOT_FOUND, SERVICE_UNAVAILABLE}

-- The answer if a login is needed. The target of a GET is saved.
abbrev pub login_answer : WebApp → Option (List File) → List ℕ → Option FormLogin → Answer
login_answer app files method None = answers.NoLogin (error_page app files FORBIDDEN)
login_answer app files method (Some pages) = answers.LoginPage (forwarded_page app files pages.login_page) (bytes_eq method (codes "GET"))

-- The answer to a request that the constraints decide, in a context with these files if they are known.
abbrev pub answer : SiteContext → Option (List File) → List ℕ → Canon → OwnedDecision → Answer
answer context files method canon (Open why) = enters context files method canon
answer context files method canon (Login why) = login_answer context.descriptor files method context.descriptor.login
answer context files method canon (Denied why) = answers.Denied (error_page context.descriptor files FORBIDDEN)

-- The decision of the constraints, and what follows from it.
abbrev pub judged_as : SiteContext → Option (List File) → List ℕ → Canon → OwnedDecision → JudgedRequest
judged_as context files method canon decided = record {
  caller = judged_caller context;
  constraints = listed_on context (why_of decided).pattern method;
  answer = answer context files method canon decided;
  decision = decided;
}

abbrev pub judged : SiteContext → Option (List File) → List ℕ → Canon → JudgedRequest
judged context files method canon =
    judged_as context files method canon (verdict context.constraints context.descriptor.rules method canon.path (caller_of context))

-- The answers to a login post: the place to go if it passes and no target was saved, the page for a wrong name or
-- password, and the page for the error that no session is available.
abbrev pub login_answers : SiteContext → Option (List File) → FormLogin → LoginAnswers
login_answers context files pages = record {
  root = location context.path ++ codes "/";
  failure_page = forwarded_page context.descriptor files pages.error_page;
  unavailable_page = error_page context.descriptor files SERVICE_UNAVAILABLE;
}

-- Whether this is a login post. Its body does not matter.
abbrev pub is_post : List ℕ → List ℕ → Bool
is_post method path = is_login (post_of method path None [])

-- Login posts exist only with form login.
abbrev pub by_login : SiteContext → Option (List File) → List ℕ → Canon → Option FormLogin → Treatment
by_login context files method canon None = Judged (judged context files method canon)
by_login context files method canon (Some pages) =
    if is_post method canon.path then LoginPost (login_answers context files pages) else Judged (judged context files method canon)

-- The hidden folders come first, then login posts, then the constraints.
abbrev pub treatment_with : SiteContext → Option (List File) → List ℕ → Canon → Treatment
treatment_with context files method canon =
    if is_protected canon.path then Hidden (error_page context.descriptor files NOT_FOUND)
    else by_login context files method canon context.descriptor.login

-- The treatment of a request for this path within the context, with the query of its target.
abbrev pub treatment : SiteContext → List ℕ → Canon → Treatment
treatment context method canon = treatment_with context (known_files context) method canon
