-- The laws of starts and stops of contexts (Jakarta Servlet 6.0, sections 2.3, 6.2.1 and 11.3).
use Rattle.std.specs.Prelude.{◌≡◌, ℕ, List, [], ◌∷◌, ◌++◌, length, reverse}
use Rattle.std.specs.List.{flat_map}
use Rattle.sv_component.specs.Call.{Destroyed, Inited}
use Rattle.sv_component.specs.Runs.{OfFilter, OfListener, OfServlet, Record}
use Rattle.sv_component.specs.declared.answers.Init.TheVariants.{Ready}
use Rattle.sv_descriptor.specs.declared.web_app.WebApp.{WebApp}
use Rattle.sv_journal.specs.Journal.{JournalState}
use Rattle.sv_session.specs.declared.event.Event.TheVariants.{ContextDestroyed, ContextInitialized}
use Rattle.sv_live.specs.Calls.{stop_calls}
use Rattle.sv_lifecycle.specs.Calls.{start_calls}
use Rattle.sv_live.specs.Standing.{LiveState, in_service}
use Rattle.sv_lifecycle.specs.Starting.{Inits, Stands, Started, Undone, called, calls_of}

-- The call of a stop that mirrors a call of a start. A component whose `init` returned that it is ready is destroyed,
-- and a listener notified of the start is notified of the stop.
abbrev pub answered_by : Record → List Record
answered_by (OfServlet place (Inited config Ready)) = OfServlet place Destroyed ∷ []
answered_by (OfFilter place (Inited config Ready)) = OfFilter place Destroyed ∷ []
answered_by (OfListener place ContextInitialized) = OfListener place ContextDestroyed ∷ []
answered_by made = []

-- The mirror of the calls of a start, in reverse order.
abbrev pub mirrored : List Record → List Record
mirrored calls = reverse (flat_map answered_by calls)

-- A stop directly after a start, without sessions, mirrors the start.
abbrev pub StopsMirrorStarts : Type 0 → Type 0 → Type 0 → Type 0
StopsMirrorStarts S F L =
    (context : List ℕ) (app : WebApp) (inits : Inits) (live : LiveState S F L) (journal : JournalState)
    → Stands context app inits live journal
    → stop_calls (length live.parts.listeners.items) (in_service live) [] ≡ mirrored (calls_of app (Started inits))

-- A start that is undone makes its calls as far as it goes, and then their mirror.
abbrev pub UndoneStartsMirror : Type 0
UndoneStartsMirror =
    (app : WebApp) (inits : Inits) → calls_of app (Undone inits) ≡ start_calls app (called inits) ++ mirrored (start_calls app (called inits))
