-- The answer to a message (Jakarta Servlet 6.0, sections 10.5, 10.9, 13.6.3 and 13.8).
use Rattle.std.specs.Prelude.{ℕ, List, ◌++◌, Option, None, codes, unwrap_or, option_and_then}
use Rattle.std.specs.Option.{option_map}
use Rattle.std.specs.Result.{result_ok}
use Rattle.sv_descriptor.specs.declared.web_app.WebApp.{WebApp}
use Rattle.sv_login.specs.declared.outcome.Outcome.{Outcome}
use Rattle.sv_login.specs.declared.outcome.Outcome.TheVariants as outcomes
use Rattle.sv_tree.specs.SiteOfDescriptor.{Content, error_page}
use Rattle.sv_tree.specs.declared.limits.TheConstants.{NOT_FOUND, SERVICE_UNAVAILABLE}
use Rattle.sv_uri.specs.Canonical.{canonical}
use Rattle.sv_uri.specs.LocationField.{location}
use Rattle.sv_uri.specs.declared.path.Canon.{Canon}
use Rattle.sv_admission.specs.declared.answer.Answer.{Answer}
use Rattle.sv_admission.specs.declared.answer.Answer.TheVariants as answers
use Rattle.sv_admission.specs.declared.answer.TheConstants.{FORBIDDEN}

-- The path and the query of a page of form login. In a well-formed descriptor, each of these pages has a canonical
-- path.
abbrev pub page_at : Option (List ℕ) → Canon
page_at page = unwrap_or (option_and_then (λ text. result_ok (canonical text)) page) (record { path = codes "/"; query = None })

abbrev pub login_page : WebApp → Canon
login_page app = page_at (option_map (λ pages. pages.login_page) app.login)

abbrev pub login_error_page : WebApp → Canon
login_error_page app = page_at (option_map (λ pages. pages.error_page) app.login)

-- The root of a context.
abbrev pub root_of : List ℕ → List ℕ
root_of context_path = location context_path ++ codes "/"

-- An error that the container raises, with its page if there is one.
abbrev pub error_with : Content → ℕ → Answer
error_with content status = answers.Error status (error_page content status None)

-- The answer to a message, by its outcome.
abbrev pub answer_to : Content → Outcome → Answer
answer_to content outcomes.Protected = error_with content NOT_FOUND
answer_to content (outcomes.LoggedIn number target) = answers.SeeOther (unwrap_or target (root_of content.context_path))
answer_to content outcomes.LoginFailed = answers.Page (login_error_page content.app)
answer_to content outcomes.NoSession = error_with content SERVICE_UNAVAILABLE
answer_to content outcomes.Entered = answers.Entered
answer_to content (outcomes.SentToLogin why) = answers.Page (login_page content.app)
answer_to content (outcomes.NoLogin why) = error_with content FORBIDDEN
answer_to content (outcomes.Denied why) = error_with content FORBIDDEN
