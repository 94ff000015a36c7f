-- The stop of a container (Jakarta Servlet 6.0, sections 2.3.4, 6.2.1 and 11.3.4).
use Rattle.std.specs.Prelude.{◌≡◌, Bool, true, false, List, [], ◌∷◌, length, map}
use Rattle.sv_component.specs.Runs.{IsRun}
use Rattle.sv_component.specs.Steps.{ComponentSteps}
use Rattle.sv_context.specs.Forgetting.{without_sessions}
use Rattle.sv_context.specs.Several.{GivesBackParts}
use Rattle.sv_context.specs.State.{ContextState, in_service, world_of}
use Rattle.sv_journal.specs.Journal.{JournalState, broken, new_journal}
use Rattle.sv_live.specs.Calls.{stop_calls}
use Rattle.sv_live.specs.World.{world}
use Rattle.sv_live.specs.declared.live.Parts.{Parts}
use Rattle.sv_run.specs.State.{State}

-- the contexts to stop: after an event that ran out of memory, without their sessions, about which nothing is notified
abbrev pub contexts_to_stop : {S F L : Type 0} → Bool → List (ContextState S F L) → List (ContextState S F L)
contexts_to_stop true contexts = map without_sessions contexts
contexts_to_stop false contexts = contexts

-- the journal of the stop: after such an event, a broken one, which notes nothing
abbrev pub journal_to_stop : Bool → JournalState
journal_to_stop true = broken new_journal
journal_to_stop false = new_journal

module _ {S F L : Type 0} (moving : ComponentSteps S F L) where
  -- the contexts stop in the order of their list, and their components are returned
  abbrev pub ShutsDown : {W : Type 0} → State (ContextState S F L) W → List (Parts S F L) → JournalState → Type 0
  ShutsDown state parts journal =
      GivesBackParts moving (contexts_to_stop state.stopped state.world.contexts) (journal_to_stop state.stopped) parts journal

  -- a context stops as if it had no session: the components that were initialized and are not gone are destroyed in the
  -- reverse order of the inits, and then each listener is notified, in reverse order, that the context stops
  abbrev pub StopsQuietly : ContextState S F L → JournalState → Parts S F L → JournalState → Type 0
  StopsQuietly context before parts after =
      IsRun moving (world_of context before)
      (stop_calls (length context.listeners) (in_service context) []) (world context.content.context_path parts after)

  abbrev pub AllStopQuietly : List (ContextState S F L) → JournalState → List (Parts S F L) → JournalState → Type 0
  AllStopQuietly [] before parts after = (parts ≡ []) × (after ≡ before)
  AllStopQuietly (context ∷ contexts) before parts after =
      (first : Parts S F L) × (others : List (Parts S F L)) × (between : JournalState)
      × StopsQuietly context before first between × AllStopQuietly contexts between others after × (parts ≡ first ∷ others)

  -- each context of a container that an event has stopped by running out of memory stops quietly
  abbrev pub StoppedContainersStopQuietly : Type 0 → Type 0
  StoppedContainersStopQuietly Words =
      (state : State (ContextState S F L) Words) (parts : List (Parts S F L)) (journal : JournalState) → state.stopped ≡ true
      → ShutsDown state parts journal → AllStopQuietly state.world.contexts (broken new_journal) parts journal
