-- The texts of entries.
use Rattle.std.specs.Prelude.{ℕ, ◌+◌, List, ◌++◌, codes, Option, Some, None}
use Rattle.std.specs.Fmt.{decimal}
use Rattle.sv_constraints.specs.Decision.{why_text}
use Rattle.sv_uri.specs.ContextPath.{shown_context}
use Rattle.sv_journal.specs.declared.answer.Answer.{Answer}
use Rattle.sv_journal.specs.declared.calls.CallName.{CallName}
use Rattle.sv_journal.specs.declared.calls.Component.TheVariants.{Servlet, Filter}
use Rattle.sv_journal.specs.declared.entry.Entry.{Entry}
use Rattle.sv_journal.specs.declared.entry.Entry.TheVariants.{Entered, SentToLogin, Refused, Hidden, Told, Called}
use Rattle.sv_session.specs.declared.event.Event.{Event}
use Rattle.sv_journal.specs.Called.{answer_text, call_text, component_text}
use Rattle.sv_session.specs.Event.{event_text}
use Rattle.sv_journal.specs.RefusalCause.{cause_text}

-- The listener at a place, counted from 0, is notified of an event.
abbrev pub heard : List ℕ → ℕ → Event → Entry
heard context place event = Told context (place + 1) event

abbrev pub called_servlet : List ℕ → List ℕ → CallName → Option Answer → Entry
called_servlet context name call answer = Called context (Servlet name) call answer

abbrev pub called_filter : List ℕ → List ℕ → CallName → Option Answer → Entry
called_filter context name call answer = Called context (Filter name) call answer

abbrev pub entry_text : Entry → List ℕ
entry_text (Entered context path) = codes "entered " ++ shown_context context ++ codes " " ++ path
entry_text (SentToLogin context why) = codes "login " ++ shown_context context ++ codes " " ++ why_text why
entry_text (Refused cause) = codes "refused " ++ cause_text cause
entry_text (Hidden cause) = codes "hidden " ++ cause_text cause
entry_text (Told context listener event) =
    codes "told " ++ shown_context context ++ codes " " ++ decimal listener ++ codes " " ++ event_text event
entry_text (Called context component call (Some answer)) =
    codes "called " ++ shown_context context ++ codes " " ++ component_text component ++ codes " " ++ call_text call ++ codes " " ++ answer_text answer
entry_text (Called context component call None) =
    codes "called " ++ shown_context context ++ codes " " ++ component_text component ++ codes " " ++ call_text call
