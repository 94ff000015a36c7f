-- The classes of servlets by their names.
use Rattle.std.specs.Prelude.{ℕ, List, [], codes, if◌then◌else◌, Option, Some, None}
use Rattle.std.specs.Str.{bytes_eq}
use Rattle.sv_application.specs.Serving.{Steps}
use Rattle.sv_component.specs.Call.{Call}
use Rattle.sv_deployments.specs.Leaving.{CallLeavesBoth, CallLeavesFields}
use Rattle.sv_deployments.specs.declared.program_servlet.ProgramServlet.{ProgramServlet}
use Rattle.sv_deployments.specs.declared.program_servlet.ProgramServlet.TheVariants.{Who, Paths, Nest, Go, Fail, ErrorCode, Gone, Keep, Bye, Out, Stream, Application}

-- a new servlet of the class, without parameters or calls
abbrev pub new_servlet : List ℕ → Option ProgramServlet
new_servlet class =
    if bytes_eq class (codes "Who") then Some (Who (record {}))
    else if bytes_eq class (codes "Paths") then Some (Paths (record {}))
    else if bytes_eq class (codes "Nest") then Some (Nest (record { path = []; calls = 0 }))
    else if bytes_eq class (codes "Go") then Some (Go (record { path = [] }))
    else if bytes_eq class (codes "Fail") then Some (Fail (record { kind = [] }))
    else if bytes_eq class (codes "Err") then Some (ErrorCode (record { code = 0 }))
    else if bytes_eq class (codes "Gone") then Some (Gone (record { seconds = None }))
    else if bytes_eq class (codes "Keep") then Some (Keep (record {}))
    else if bytes_eq class (codes "Bye") then Some (Bye (record {}))
    else if bytes_eq class (codes "Out") then Some (Out (record {}))
    else if bytes_eq class (codes "Stream") then Some (Stream (record { kind = [] }))
    else if bytes_eq class (codes "Application") then Some (Application (record { location = [] }))
    else None

-- how servlets treat the fields that a proxy reads, and the caller
pub data ServletKind : Type 0 where
  -- hands its requests over to this internal location
  HandsOver : List ℕ → ServletKind
  -- may remove the caller, and leaves the fields
  EndsLogins : ServletKind
  -- leaves both
  LeavesBoth : ServletKind

abbrev pub kind_of : ProgramServlet → ServletKind
kind_of (Application servlet) = HandsOver servlet.location
kind_of (Bye servlet) = EndsLogins
kind_of (Out servlet) = EndsLogins
kind_of servlet = LeavesBoth

-- a servlet of the class `Application` takes the steps of that class; any other leaves the fields, and the caller unless
-- it may remove it
abbrev pub StepsAs : ServletKind → Call → ServletKind → Type 0
StepsAs (HandsOver before) call (HandsOver after) = Steps before call after
StepsAs EndsLogins call EndsLogins = CallLeavesFields call
StepsAs LeavesBoth call LeavesBoth = CallLeavesBoth call
StepsAs before call after = ⊥

-- the effect of a call on a servlet of the program
abbrev pub ServletSteps : ProgramServlet → Call → ProgramServlet → Type 0
ServletSteps before call after = StepsAs (kind_of before) call (kind_of after)
