-- Initializing and destroying a component, and the calls and notifications of a stop (Jakarta Servlet 6.0, sections
-- 2.3, 6.2.1 and 11.3).
use Rattle.std.specs.Prelude.{ℕ, List, ◌++◌, map, reverse}
use Rattle.sv_component.specs.Call.{Destroyed, Inited}
use Rattle.sv_component.specs.Runs.{OfFilter, OfServlet, Record}
use Rattle.sv_component.specs.declared.answers.Init.{Init}
use Rattle.sv_component.specs.declared.config.Config.{Config}
use Rattle.sv_session.specs.declared.event.Event.TheVariants.{ContextDestroyed}
use Rattle.sv_listeners.specs.Telling.{told}
use Rattle.sv_session.specs.Store.{Session}
use Rattle.sv_live.specs.SessionEnds.{ends_told}
use Rattle.sv_journal.specs.declared.calls.Place.{Place}
use Rattle.sv_journal.specs.declared.calls.Place.TheVariants.{Filter, Servlet}

-- The record of an `init`.
abbrev pub init_record : Place → Config → Init → Record
init_record (Filter place) config answer = OfFilter place (Inited config answer)
init_record (Servlet place) config answer = OfServlet place (Inited config answer)

-- The record of a `destroy`.
abbrev pub destroyed : Place → Record
destroyed (Filter place) = OfFilter place Destroyed
destroyed (Servlet place) = OfServlet place Destroyed

-- The calls of a stop. The components are destroyed in reverse order of their `init`. Then the sessions end, and then
-- each listener is notified of the stop.
abbrev pub stop_calls : ℕ → List Place → List Session → List Record
stop_calls listeners places sessions = map destroyed (reverse places) ++ (ends_told sessions listeners ++ told ContextDestroyed listeners)
