-- The theorem over every run of a container with our contexts, until memory runs out (Jakarta Servlet 6.0, sections 7.5,
-- 9.1, 10.9, 11.3, 13.6.3 and 13.8).
use Rattle.std.specs.Prelude.{◌≡◌, ℕ, false, List, ◌∷◌, ◌++◌, Option, None, Some, slice_get}
use Rattle.std.specs.List.{flat_map}
use Rattle.sv_component.specs.Laws.{ComponentsMoved}
use Rattle.sv_component.specs.Runs.{Record}
use Rattle.sv_component.specs.Steps.{ComponentSteps}
use Rattle.sv_context.specs.Conduct.{unnoted}
use Rattle.sv_context.specs.State.{ContextState, world_of}
use Rattle.sv_context.specs.Theory.{theory}
use Rattle.sv_headline.specs.Events.{AreTransitionsOf}
use Rattle.sv_headline.specs.Transitions.{ContextAnswer, Transition, calls_at, edits_at}
use Rattle.sv_policy.specs.Edits.{edited_all}
use Rattle.sv_run.specs.Contexts.{Handling}
use Rattle.sv_run.specs.Events.{Happening}
use Rattle.sv_run.specs.Runs.{Answer, Run}
use Rattle.sv_run.specs.State.{State}

module _ {S F L : Type 0} (moving : ComponentSteps S F L) where
  -- each component of a context is moved by exactly its calls, in their order
  abbrev pub IsMovedBy : Option (ContextState S F L) → List Record → Option (ContextState S F L) → Type 0
  IsMovedBy None calls after = after ≡ None
  IsMovedBy (Some first) calls after =
      (last : ContextState S F L) × (after ≡ Some last)
      × ComponentsMoved moving (world_of first unnoted) calls (world_of last unnoted)

  -- each message is decided by the constraints of then: those of its context at first, with all edits of that context
  -- before the message
  abbrev pub AreDecidedByThen : List (ContextState S F L) → List (Transition S F L) → Type 0
  AreDecidedByThen contexts transitions =
      (earlier : List (Transition S F L)) (place : ℕ) (handling : Handling (ContextState S F L)) (made : List Record) (text : List ℕ)
      (later : List (Transition S F L)) (first : ContextState S F L)
      → transitions ≡ earlier ++ ContextAnswer place handling made text ∷ later → slice_get contexts place ≡ Some first
      → handling.context.policy ≡ edited_all first.policy (flat_map (edits_at place) earlier)

  module _ {Words : Type 0} (draws : Words → ℕ × ℕ → Words → Type 0) where
    pub record IsLawfulRun (before : State (ContextState S F L) Words) (happenings : List Happening) (answers : List (Answer (ContextState S F L)))
        (after : State (ContextState S F L) Words) : Type 0 where
      -- each event has its transitions: the ends of expired sessions, the messages and refusals that its bytes complete, or
      -- its edit; they lead the contexts on, and are all that is sent and noted
      pub transitions : List (Transition S F L)
      pub are : AreTransitionsOf moving draws before happenings answers transitions after
      -- nothing but edits changes the constraints that decide
      pub constraints : AreDecidedByThen before.world.contexts transitions
      -- each component is moved by exactly its calls, in their order
      pub moved : (place : ℕ)
          → IsMovedBy (slice_get before.world.contexts place) (flat_map (calls_at place) transitions) (slice_get after.world.contexts place)

    abbrev pub EveryRunIsLawful : Type 0
    EveryRunIsLawful =
        (before after : State (ContextState S F L) Words) (happenings : List Happening) (answers : List (Answer (ContextState S F L)))
        → Run (theory moving draws) before happenings answers after → after.stopped ≡ false → IsLawfulRun before happenings answers after

    -- and a lawful run is a run: the record says all that the definition of a run says
    abbrev pub EveryLawfulRunIsARun : Type 0
    EveryLawfulRunIsARun =
        (before after : State (ContextState S F L) Words) (happenings : List Happening) (answers : List (Answer (ContextState S F L)))
        → IsLawfulRun before happenings answers after → Run (theory moving draws) before happenings answers after
