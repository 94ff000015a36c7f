-- Whom a cell lets enter.
use Rattle.std.specs.Prelude.{ℕ, Bool, true, false, not, ◌&&◌, ◌||◌, List, [], ◌∷◌, codes, Option, None, Some, if◌then◌else◌}
use Rattle.sv_realm.specs.declared.caller.Caller.{Caller}
use Rattle.sv_audit.specs.Reading.{Kind, IsDenied, NeedsLogin, Passes, said_to}
use Rattle.sv_audit.specs.Visitors.{needs_login}
use Rattle.sv_audit.specs.declared.access.Access.{Access}
use Rattle.sv_report.specs.Escaped.{escaped}
use Rattle.sv_report.specs.Parts.{joined}
use Rattle.sv_report.specs.Words.{refusal_text, who_text}
use Rattle.sv_report.specs.declared.report.Viewer.{Viewer}

-- The viewer as a caller, who is logged in.
abbrev pub caller_of : Viewer → Caller
caller_of viewer = record { number = 0; name = viewer.name; roles = viewer.roles }

abbrev pub passes : Kind → Bool
passes Passes = true
passes NeedsLogin = false
passes IsDenied = false

-- Whether the request of the viewer passes (section 13.8), and the viewer can log in where that is needed.
abbrev pub may_enter : Viewer → Bool → Access → Bool
may_enter viewer has_login access = (has_login || not (needs_login access)) && passes (said_to (Some (caller_of viewer)) access).0

abbrev pub viewer_title : Option Viewer → List ℕ
viewer_title None = codes "who may enter"
viewer_title (Some viewer) = escaped viewer.name

-- Whether a viewer enters and, if not, why.
abbrev pub answer_text : Bool → Bool → Access → List ℕ
answer_text enters has_login access = if enters then codes "yes" else joined (codes "no (" ∷ refusal_text has_login access ∷ codes ")" ∷ [])

-- The callers that may enter or, with a viewer, whether the viewer may.
abbrev pub entry_text : Option Viewer → Bool → Access → List ℕ
entry_text None has_login access = who_text has_login access
entry_text (Some viewer) has_login access = answer_text (may_enter viewer has_login access) has_login access

-- The callers that reach the protected folders.
abbrev pub hidden_text : Option Viewer → List ℕ
hidden_text None = codes "nobody (hidden)"
hidden_text (Some viewer) = codes "no (hidden)"

-- The requests that meet a pattern that is the best match of no canonical path.
abbrev pub unmatched_text : List ℕ
unmatched_text = codes "no request"

-- Another context that has the paths (section 12.1).
abbrev pub context_text : List ℕ → List ℕ
context_text path = joined (codes "context " ∷ escaped path ∷ [])
