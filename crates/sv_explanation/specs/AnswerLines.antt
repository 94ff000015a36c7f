-- What the server answers, in sentences (Jakarta Servlet 6.0, sections 6.2.4, 10.9, 10.10, 12.1 and 13.6.3).
use Rattle.std.specs.Prelude.{ℕ, Bool, List, [], ◌∷◌, codes, Option, None, Some, if◌then◌else◌}
use Rattle.std.specs.Fmt.{decimal}
use Rattle.sv_report.specs.Escaped.{escaped}
use Rattle.sv_report.specs.Parts.{joined}
use Rattle.sv_report.specs.Words.{names_text, pattern_text}
use Rattle.sv_explanation.specs.declared.explanation.Answer.{Answer}
use Rattle.sv_explanation.specs.declared.explanation.Answer.TheVariants.{Enters, LoginPage, NoLogin, Denied}
use Rattle.sv_explanation.specs.declared.explanation.LoginAnswers.{LoginAnswers}
use Rattle.sv_explanation.specs.declared.page.ForwardedPage.{ForwardedPage}
use Rattle.sv_explanation.specs.declared.page.Page.{Page}
use Rattle.sv_explanation.specs.declared.responder.Responder.{Responder}
use Rattle.sv_explanation.specs.declared.responder.Responder.TheVariants as responders
use Rattle.sv_explanation.specs.declared.statuses.TheConstants.{FORBIDDEN, FOUND, METHOD_NOT_ALLOWED, NOT_FOUND, SERVICE_UNAVAILABLE}

-- Why a page is not shown.
abbrev pub missing_line : List ℕ
missing_line = codes "There is no such page: neither a servlet nor a file has its path.\n"

-- An answer with this status, by its error page or without it.
abbrev pub answers_by : List ℕ → Page → List ℕ
answers_by status page =
    if page.is_missing
    then joined (codes "answers " ∷ status ∷ codes " without the error page " ∷ escaped page.location ∷ codes ".\n" ∷ missing_line ∷ [])
    else joined (codes "answers " ∷ status ∷ codes " with the error page " ∷ escaped page.location ∷ codes ".\n" ∷ [])

-- An answer with this status, and with an error page if there is one.
abbrev pub answers_with : ℕ → Option Page → List ℕ
answers_with status None = joined (codes "answers " ∷ decimal status ∷ codes ".\n" ∷ [])
answers_with status (Some page) = answers_by (decimal status) page

abbrev pub error_line : ℕ → Option Page → List ℕ
error_line status page = joined (codes "The server " ∷ answers_with status page ∷ [])

-- A redirect to this location.
abbrev pub redirect_line : List ℕ → List ℕ
redirect_line location = joined (codes "The server answers " ∷ decimal FOUND ∷ codes " with the location " ∷ escaped location ∷ codes ".\n" ∷ [])

-- A request enters the servlet with this name, by this pattern.
abbrev pub servlet_line : List ℕ → List ℕ → List ℕ
servlet_line name pattern = joined (codes "The request enters the servlet " ∷ name ∷ codes ", by its pattern " ∷ pattern ∷ codes ".\n" ∷ [])

abbrev pub file_line : List ℕ → List ℕ
file_line path = joined (codes "The request enters, and the server answers 200 with the file " ∷ escaped path ∷ codes ".\n" ∷ [])

abbrev pub folder_lines : List ℕ → List ℕ
folder_lines location = joined (codes "The request enters, and its path is that of a folder.\n" ∷ redirect_line location ∷ [])

abbrev pub welcome_lines : List ℕ → List ℕ → List ℕ
welcome_lines page location =
    joined (codes "The request enters, and the welcome file of its folder is " ∷ escaped page ∷ codes ".\n" ∷ redirect_line location ∷ [])

-- What answers a request that enters.
abbrev pub responder_lines : Responder → List ℕ
responder_lines (responders.Servlet servlet) = servlet_line (escaped servlet.name) (pattern_text (Some servlet.pattern))
responder_lines responders.Files = codes "The request enters, and files answer it.\n"
responder_lines (responders.File path) = file_line path
responder_lines (responders.Folder location) = folder_lines location
responder_lines (responders.Welcome page location) = welcome_lines page location
responder_lines (responders.Missing page) =
    joined (codes "The request enters, and neither a servlet nor a file has its path.\n" ∷ error_line NOT_FOUND page ∷ [])
responder_lines (responders.NotAllowed page) =
    joined (codes "The request enters, and files answer only GET and HEAD.\n" ∷ error_line METHOD_NOT_ALLOWED page ∷ [])

-- The filters that a request passes first.
abbrev pub filters_line : List (List ℕ) → List ℕ
filters_line [] = []
filters_line (name ∷ names) = joined (codes "Filters that are called first: " ∷ names_text (name ∷ names) ∷ codes ".\n" ∷ [])

-- Whether the target is saved.
abbrev pub saving_line : Bool → List ℕ
saving_line is_saved =
    if is_saved then codes "It saves the target for after the login, if a session is available.\n" else codes "It saves no target, since the method is not GET.\n"

-- The answer to a request that is forwarded to a page that is missing.
abbrev pub unshown_lines : Option Page → List ℕ
unshown_lines not_found = joined (missing_line ∷ codes "The server then " ∷ answers_with NOT_FOUND not_found ∷ [])

-- The answer to a request that is forwarded to a login page.
abbrev pub login_page_lines : ForwardedPage → List ℕ
login_page_lines shown =
    if shown.page.is_missing
    then joined (codes "The request is forwarded to the login page " ∷ escaped shown.page.location ∷ codes ".\n" ∷ unshown_lines shown.not_found ∷ [])
    else joined (codes "The server answers 200 with the login page " ∷ escaped shown.page.location ∷ codes ".\n" ∷ [])

abbrev pub no_login_lines : Option Page → List ℕ
no_login_lines page = joined (codes "The context has no login configuration.\n" ∷ error_line FORBIDDEN page ∷ [])

-- The answer to a request that the constraints decide.
abbrev pub answer_lines : Answer → List ℕ
answer_lines (Enters filters responder) = joined (filters_line filters ∷ responder_lines responder ∷ [])
answer_lines (LoginPage page is_saved) = joined (login_page_lines page ∷ saving_line is_saved ∷ [])
answer_lines (NoLogin page) = no_login_lines page
answer_lines (Denied page) = error_line FORBIDDEN page

-- The answer to a login post whose name and password do not fit.
abbrev pub failure_lines : ForwardedPage → List ℕ
failure_lines shown =
    if shown.page.is_missing
    then joined (codes "If they do not fit, the request is forwarded to the login error page " ∷ escaped shown.page.location ∷ codes ".\n" ∷ unshown_lines shown.not_found ∷ [])
    else joined (codes "If they do not fit, it answers 200 with the login error page " ∷ escaped shown.page.location ∷ codes ".\n" ∷ [])

-- The answers to a login post.
abbrev pub login_lines : LoginAnswers → List ℕ
login_lines answers = joined (
    codes "The request is a login post.\n"
    ∷ codes "If the name and the password fit, the server answers 303 with the saved target or " ∷ answers.root
    ∷ codes ".\nIf they fit and no session is available, it " ∷ answers_with SERVICE_UNAVAILABLE answers.unavailable_page
    ∷ failure_lines answers.failure_page ∷ [])
