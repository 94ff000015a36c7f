-- The end of a context's expired sessions, and its notifications (Jakarta Servlet 6.0, sections 7.5, 7.7.1 and 11.3.4).
use Rattle.std.specs.Prelude.{◌≡◌, ℕ, List, length}
use Rattle.std.specs.List.{flat_map}
use Rattle.sv_component.specs.Runs.{Record, Runs}
use Rattle.sv_component.specs.Steps.{ComponentSteps}
use Rattle.sv_journal.specs.Journal.{JournalState}
use Rattle.sv_live.specs.SessionEnds.{all_told, end_events}
use Rattle.sv_session.specs.Runs as sessions
use Rattle.sv_session.specs.declared.ended_sessions.EndedSession.{EndedSession}
use Rattle.sv_context.specs.State.{ContextState, IsSameDeployment, world_of}

-- The notifications of this number of listeners: each session has ended, and its attributes are removed.
abbrev pub ends_told : List EndedSession → ℕ → List Record
ends_told ended count = flat_map (λ session. all_told (end_events session) count) ended

module _ {S F L : Type 0} (moving : ComponentSteps S F L) where
  -- The sessions that have expired at the time end one after another, ordered by deadline and then number, until none
  -- is left.
  pub record Expires (moment : ℕ) (before : ContextState S F L) (noted : JournalState) (after : ContextState S F L) (noted_after : JournalState) : Type 0 where
    pub ended : List EndedSession
    pub ends : sessions.Expires moment before.store ended after.store
    pub told : Runs moving (world_of before noted) (ends_told ended (length before.listeners)) (world_of after noted_after)
    pub stays : IsSameDeployment before after
    pub standings : after.standings ≡ before.standings
