-- The lives of components from the start of their container to its stop (Jakarta Servlet 6.0, sections 2.3.3.2, 2.3.4
-- and 6.2.1).
use Rattle.std.specs.Prelude.{◌≡◌, ℕ, ◌<◌, ◌==◌, Bool, true, false, List, [], ◌∷◌, ◌++◌, length, Ok}
use Rattle.std.specs.List.{list_any}
use Rattle.sv_component.specs.Call.{Call, Destroyed}
use Rattle.sv_component.specs.Motion.{calls_at, filter_calls, servlet_calls}
use Rattle.sv_component.specs.Runs.{IsRun, Record}
use Rattle.sv_component.specs.Steps.{ComponentSteps}
use Rattle.sv_container.specs.Container.{state_of}
use Rattle.sv_container.specs.Starting.{Starts}
use Rattle.sv_container.specs.Stopping.{ShutsDown}
use Rattle.sv_container.specs.declared.container.Container.{Container}
use Rattle.sv_context.specs.Conduct.{conduct, unnoted}
use Rattle.sv_context.specs.Retiring.{is_destroy}
use Rattle.sv_context.specs.State.{ContextState, in_service, world_of}
use Rattle.sv_lifecycle.specs.declared.deployment.Deployment.{Deployment}
use Rattle.sv_journal.specs.Journal.{JournalState}
use Rattle.sv_live.specs.Calls.{stop_calls}
use Rattle.sv_live.specs.World.{world}
use Rattle.sv_journal.specs.declared.calls.Place.{Place}
use Rattle.sv_journal.specs.declared.calls.Place.TheVariants.{Filter, Servlet}
use Rattle.sv_live.specs.declared.live.Parts.{Parts}
use Rattle.sv_headline.specs.Lives.{AltersInTurn, Lives}
use Rattle.sv_session.specs.Store.{Session}

-- whether the second place is the first
abbrev pub is_at : Place → Place → Bool
is_at (Servlet place) (Servlet other) = other == place
is_at (Servlet place) (Filter other) = false
is_at (Filter place) (Servlet other) = false
is_at (Filter place) (Filter other) = other == place

-- the calls of the servlet or filter at a place, in their order
abbrev pub component_calls : Place → List Record → List Call
component_calls (Servlet place) made = calls_at place (servlet_calls made)
component_calls (Filter place) made = calls_at place (filter_calls made)

-- destroyed once, by the last call
pub record IsDestroyedOnce (calls : List Call) : Type 0 where
  pub front : List Call
  pub are : calls ≡ front ++ Destroyed ∷ []
  pub not_before : list_any is_destroy front ≡ false

-- a component that was initialized is destroyed once and last, and one that was not is not called
abbrev pub EndsOnce : Bool → List Call → Type 0
EndsOnce true calls = IsDestroyedOnce calls
EndsOnce false calls = calls ≡ []

module _ {S F L : Type 0} (context : ContextState S F L) where
  -- the context has a component at the place
  abbrev pub HasComponent : Place → Type 0
  HasComponent (Servlet place) = place < length context.servlets
  HasComponent (Filter place) = place < length context.filters

  -- whether it was initialized
  abbrev pub was_initialised : Place → Bool
  was_initialised place = list_any (is_at place) context.initialised

  -- the calls of the stop of the context: the components in service are destroyed, the sessions end, and the listeners
  -- are notified
  abbrev pub calls_of_stop : List Session → List Record
  calls_of_stop sessions = stop_calls (length context.listeners) (in_service context) sessions

module _ {S F L : Type 0} (moving : ComponentSteps S F L) where
  -- a context reaches its last state and stops; only calls move its components, first those of events, then those of
  -- the stop; in all, each component that was initialized is destroyed, once and last, and no other is called
  pub record LivesToItsStop (first last : ContextState S F L) (parts : Parts S F L) : Type 0 where
    pub lives : Lives moving first last
    pub sessions : List Session
    pub stops : IsRun moving (world_of last unnoted) (calls_of_stop last sessions)
        (world last.content.context_path parts unnoted)
    pub ends : (place : Place) → HasComponent first place
        → EndsOnce (was_initialised first place) (component_calls place (lives.made ++ calls_of_stop last sessions))

  abbrev pub AllLiveToTheirStops : List (ContextState S F L) → List (ContextState S F L) → List (Parts S F L) → Type 0
  AllLiveToTheirStops [] last parts = (last ≡ []) × (parts ≡ [])
  AllLiveToTheirStops (context ∷ contexts) last parts =
      (its_last : ContextState S F L) × (its_parts : Parts S F L) × (other_last : List (ContextState S F L)) × (other_parts : List (Parts S F L))
      × LivesToItsStop context its_last its_parts × AllLiveToTheirStops contexts other_last other_parts
      × (last ≡ its_last ∷ other_last) × (parts ≡ its_parts ∷ other_parts)

  -- this holds for each context of a container, from its start over any number of events to its stop
  abbrev pub EachIsDestroyedOnce : Type 0 → Type 0
  EachIsDestroyedOnce Words =
      (deployments : List (Deployment S F L)) (words : Words) (noted noted_after : JournalState) (started stopping : Container S F L Words) (events : ℕ)
      (parts : List (Parts S F L)) (journal : JournalState)
      → Starts moving deployments words noted (Ok started) noted_after
      → AltersInTurn (conduct moving) events (state_of started).world.contexts (state_of stopping).world.contexts
      → ShutsDown moving (state_of stopping) parts journal
      → AllLiveToTheirStops (state_of started).world.contexts (state_of stopping).world.contexts parts
