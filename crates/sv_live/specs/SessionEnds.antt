-- The sessions that end with their context, and the notifications of their end (Jakarta Servlet 6.0, sections 7.5,
-- 7.7.1 and 11.3.4).
use Rattle.std.specs.Prelude.{ℕ, nat_lt, List, [], ◌∷◌, map, if◌then◌else◌}
use Rattle.std.specs.List.{flat_map}
use Rattle.sv_component.specs.Runs.{Record}
use Rattle.sv_session.specs.declared.event.Event.{Event}
use Rattle.sv_session.specs.declared.event.Event.TheVariants.{AttributeRemoved, SessionDestroyed}
use Rattle.sv_listeners.specs.Telling.{told}
use Rattle.sv_session.specs.Calls.{ended}
use Rattle.sv_session.specs.Store.{Session}
use Rattle.sv_session.specs.declared.ended_sessions.EndedSession.{EndedSession}

-- Inserts a session into a list in order of session numbers.
abbrev pub put_by_number : Session → List Session → List Session
put_by_number session [] = session ∷ []
put_by_number session (other ∷ others) =
    if nat_lt other.number session.number then other ∷ put_by_number session others else session ∷ other ∷ others

-- The sessions in order of their numbers.
abbrev pub by_number : List Session → List Session
by_number [] = []
by_number (session ∷ sessions) = put_by_number session (by_number sessions)

-- The events of a session's end: its destruction, and then the removal of each attribute, in the order of their first
-- assignment.
abbrev pub end_events : EndedSession → List Event
end_events session = SessionDestroyed session.number ∷ map (λ attribute. AttributeRemoved session.number attribute.name) session.attributes

-- This many listeners receive the events, one event after another.
abbrev pub all_told : List Event → ℕ → List Record
all_told events count = flat_map (λ event. told event count) events

-- This many listeners are notified of the end of the sessions, in order of session numbers.
abbrev pub ends_told : List Session → ℕ → List Record
ends_told sessions count = flat_map (λ session. all_told (end_events (ended session)) count) (by_number sessions)
