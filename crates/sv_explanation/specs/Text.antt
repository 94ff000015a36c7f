-- An explanation in sentences (RFC 9112, section 3.2; Jakarta Servlet 6.0, sections 3.5, 10.5, 12.1, 13.6.3 and 13.8).
use Rattle.std.specs.Prelude.{ℕ, List, [], ◌∷◌, codes, Option}
use Rattle.std.specs.Fmt.{decimal}
use Rattle.sv_constraints.specs.Decision.{why_of}
use Rattle.sv_report.specs.Escaped.{escaped}
use Rattle.sv_report.specs.Parts.{joined}
use Rattle.sv_uri.specs.ContextPath.{shown_context}
use Rattle.sv_uri.specs.Fault as paths
use Rattle.sv_wire.specs.WireFault.{fault_name, fault_status}
use Rattle.sv_explanation.specs.AnswerLines.{answer_lines, error_line, login_lines}
use Rattle.sv_explanation.specs.ReasonLines.{caller_line, constraint_lines, pattern_line, reason_line}
use Rattle.sv_explanation.specs.declared.explanation.Explanation.{Explanation}
use Rattle.sv_explanation.specs.declared.explanation.Explanation.TheVariants.{Unread, OfServer, BadPath, NoContext, InContext}
use Rattle.sv_explanation.specs.declared.explanation.JudgedRequest.{JudgedRequest}
use Rattle.sv_explanation.specs.declared.explanation.ServedRequest.{ServedRequest}
use Rattle.sv_explanation.specs.declared.explanation.Treatment.{Treatment}
use Rattle.sv_explanation.specs.declared.explanation.Treatment.TheVariants.{Hidden, LoginPost, Judged}
use Rattle.sv_explanation.specs.declared.page.Page.{Page}
use Rattle.sv_explanation.specs.declared.statuses.TheConstants.{NOT_FOUND}

-- A request that the constraints decide: the caller if there is none that is asked for, the best pattern, the constraints on it, the reason and the answer.
abbrev pub judged_lines : List ℕ → List ℕ → JudgedRequest → List ℕ
judged_lines file method request = joined (
    caller_line request.caller
    ∷ pattern_line (why_of request.decision).pattern
    ∷ constraint_lines file method request.constraints
    ∷ reason_line method request.caller request.decision
    ∷ answer_lines request.answer ∷ [])

abbrev pub hidden_lines : Option Page → List ℕ
hidden_lines page = joined (codes "Its folder is hidden from clients.\n" ∷ error_line NOT_FOUND page ∷ [])

abbrev pub treatment_lines : List ℕ → List ℕ → Treatment → List ℕ
treatment_lines file method (Hidden page) = hidden_lines page
treatment_lines file method (LoginPost answers) = login_lines answers
treatment_lines file method (Judged request) = judged_lines file method request

abbrev pub path_line : List ℕ → List ℕ → List ℕ
path_line target path = joined (codes "The target " ∷ escaped target ∷ codes " has the canonical path " ∷ escaped path ∷ codes ".\n" ∷ [])

-- The context that serves the path, its file, and the path within it.
abbrev pub context_line : ServedRequest → List ℕ
context_line request = joined (
    codes "The context " ∷ escaped (shown_context request.context) ∷ codes " (" ∷ escaped request.file
    ∷ codes ") serves it, as " ∷ escaped request.path ∷ codes ".\n" ∷ [])

abbrev pub served_lines : List ℕ → List ℕ → ServedRequest → List ℕ
served_lines method target request =
    joined (path_line target request.canonical ∷ context_line request ∷ treatment_lines request.file method request.treatment ∷ [])

abbrev pub no_context_lines : List ℕ → List ℕ → List ℕ
no_context_lines target path = joined (path_line target path ∷ codes "No context serves it.\nThe server answers 404.\n" ∷ [])

-- A target has no canonical path, for the fault with this name.
abbrev pub bad_path_lines : List ℕ → List ℕ → List ℕ
bad_path_lines target name = joined (
    codes "The target " ∷ escaped target ∷ codes " has no canonical path: " ∷ name ∷ codes ".\nThe server answers 400.\n" ∷ [])

-- A request is refused for the fault with this name, with this status.
abbrev pub unread_lines : List ℕ → List ℕ → List ℕ → List ℕ → List ℕ
unread_lines method target name status = joined (
    codes "The server refuses " ∷ escaped method ∷ codes " for the target " ∷ escaped target ∷ codes ": " ∷ name
    ∷ codes ".\nIt answers " ∷ status ∷ codes ".\n" ∷ [])

-- The text for a method and a target.
abbrev pub explanation_text : List ℕ → List ℕ → Explanation → List ℕ
explanation_text method target (Unread fault) = unread_lines method target (fault_name fault) (decimal (fault_status fault))
explanation_text method target OfServer = codes "The target * asks for the server itself.\nThe server answers 200 without a body.\n"
explanation_text method target (BadPath fault) = bad_path_lines target (paths.fault_name fault)
explanation_text method target (NoContext path) = no_context_lines target path
explanation_text method target (InContext request) = served_lines method target request
