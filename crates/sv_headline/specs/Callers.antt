-- The callers in a started container (Jakarta Servlet 6.0, section 13.6.3).
use Rattle.std.specs.Prelude.{◌≡◌, ℕ, false, List, Ok}
use Rattle.sv_component.specs.Steps.{ComponentSteps}
use Rattle.sv_container.specs.Container.{state_of}
use Rattle.sv_container.specs.Starting.{Starts}
use Rattle.sv_container.specs.declared.container.Container.{Container}
use Rattle.sv_context.specs.State.{ContextState}
use Rattle.sv_context.specs.Theory.{theory}
use Rattle.sv_lifecycle.specs.declared.deployment.Deployment.{Deployment}
use Rattle.sv_journal.specs.Journal.{JournalState}
use Rattle.sv_run.specs.Events.{Happening}
use Rattle.sv_run.specs.Laws.{HoldsAt, LoggedInBefore}
use Rattle.sv_run.specs.Runs.{Answer, Run, deeds_of}
use Rattle.sv_run.specs.State.{State}

module _ {S F L W : Type 0} (moving : ComponentSteps S F L)
    (draws : W → ℕ × ℕ → W → Type 0) where
  -- after these messages, a session of a context holds a caller only by a login to it as that caller, which nothing
  -- has undone
  abbrev pub CallersHaveLoggedIn : List (Answer (ContextState S F L)) → State (ContextState S F L) W → Type 0
  CallersHaveLoggedIn answers after =
      (place number caller : ℕ) → HoldsAt (theory moving draws) place number caller after.world.contexts
      → LoggedInBefore (theory moving draws) place number caller (deeds_of answers)

  -- this holds after each run of a started container, until memory runs out
  abbrev pub CallersOfAStartedContainerHaveLoggedIn : Type 0
  CallersOfAStartedContainerHaveLoggedIn =
      (deployments : List (Deployment S F L)) (words : W) (noted noted_after : JournalState) (container : Container S F L W) (happenings : List Happening)
      (answers : List (Answer (ContextState S F L))) (after : State (ContextState S F L) W)
      → Starts moving deployments words noted (Ok container) noted_after
      → Run (theory moving draws) (state_of container) happenings answers after → after.stopped ≡ false
      → CallersHaveLoggedIn answers after
