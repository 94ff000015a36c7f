-- A container that is suspended (Jakarta Servlet 6.0, sections 2.3.4, 6.2.1, 7.5 and 11.3.4).
use Rattle.std.specs.Prelude.{◌≡◌, Bool, true, false, List, Option, None, Some}
use Rattle.sv_component.specs.Steps.{ComponentSteps}
use Rattle.sv_container.specs.Stopping.{ShutsDown}
use Rattle.sv_container.specs.declared.suspension.Suspension.{Suspension}
use Rattle.sv_context.specs.State.{ContextState}
use Rattle.sv_context.specs.Suspending.{SuspendsAll}
use Rattle.sv_journal.specs.Journal.{JournalState, new_journal}
use Rattle.sv_live.specs.declared.live.Parts.{Parts}
use Rattle.sv_run.specs.State.{State}

module _ {S F L Words : Type 0} (moving : ComponentSteps S F L) where
  -- What a later container can resume with: what remains of the contexts, and the time.
  pub record HandsOver (state : State (ContextState S F L) Words) (parts : List (Parts S F L)) (suspension : Suspension) (journal : JournalState) : Type 0 where
    pub contexts : SuspendsAll moving state.world.contexts new_journal parts suspension.contexts.items journal
    pub moment : suspension.moment ≡ state.moment

  -- The contexts are suspended in their order. After an event that ran out of memory, the container is shut down, and
  -- nothing remains.
  abbrev pub SuspendsWith : Bool → State (ContextState S F L) Words → List (Parts S F L) → Option Suspension → JournalState → Type 0
  SuspendsWith true state parts None journal = ShutsDown moving state parts journal
  SuspendsWith false state parts (Some suspension) journal = HandsOver state parts suspension journal
  SuspendsWith stopped state parts suspension journal = ⊥

  abbrev pub Suspends : State (ContextState S F L) Words → List (Parts S F L) → Option Suspension → JournalState → Type 0
  Suspends state parts suspension journal = SuspendsWith state.stopped state parts suspension journal
