-- A context that is suspended: it stops, and its sessions do not end (Jakarta Servlet 6.0, sections 2.3.4, 6.2.1, 7.5 and
-- 11.3.4).
use Rattle.std.specs.Prelude.{◌≡◌, List, [], ◌∷◌, length}
use Rattle.sv_component.specs.Runs.{Runs}
use Rattle.sv_component.specs.Steps.{ComponentSteps}
use Rattle.sv_context.specs.State.{ContextState, in_service, world_of}
use Rattle.sv_journal.specs.Journal.{JournalState}
use Rattle.sv_lifecycle.specs.declared.suspended_context.SuspendedContext.{SuspendedContext}
use Rattle.sv_live.specs.Calls.{stop_calls}
use Rattle.sv_live.specs.World.{world}
use Rattle.sv_live.specs.declared.live.Parts.{Parts}

-- What remains of a context: its path, its users, its constraints as they were declared and as they are, and its sessions.
pub record Remains {S F L : Type 0} (context : ContextState S F L) (suspended : SuspendedContext) : Type 0 where
  pub path : suspended.path ≡ context.content.context_path
  pub users : suspended.users ≡ context.users
  pub declared : suspended.declared ≡ context.content.app.constraints
  pub constraints : suspended.constraints ≡ context.policy.constraints
  pub greatest : suspended.greatest ≡ context.policy.greatest
  pub store : suspended.sessions.store ≡ context.store

module _ {S F L : Type 0} (moving : ComponentSteps S F L) where
  -- The components are destroyed and the listeners are notified of the stop, as when the context is undeployed. They are
  -- notified of the end of no session.
  pub record Suspends (context : ContextState S F L) (before : JournalState) (parts : Parts S F L) (suspended : SuspendedContext) (after : JournalState) : Type 0 where
    pub stops : Runs moving
        (world_of context before) (stop_calls (length context.listeners) (in_service context) []) (world context.content.context_path parts after)
    pub remains : Remains context suspended

  -- The contexts are suspended in the order of their list.
  abbrev pub SuspendsAll : List (ContextState S F L) → JournalState → List (Parts S F L) → List SuspendedContext → JournalState → Type 0
  SuspendsAll [] before parts suspended after = (parts ≡ []) × (suspended ≡ []) × (after ≡ before)
  SuspendsAll (context ∷ contexts) before parts suspended after =
      (first : Parts S F L) × (others : List (Parts S F L)) × (remains : SuspendedContext) × (rest : List SuspendedContext) × (between : JournalState)
      × Suspends context before first remains between × SuspendsAll contexts between others rest after
      × (parts ≡ first ∷ others) × (suspended ≡ remains ∷ rest)
