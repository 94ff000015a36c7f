-- Contexts, constraints and callers over a restart (Jakarta Servlet 6.0, sections 7.5, 13.6, 13.6.3 and 13.8).
use Rattle.std.specs.Prelude.{◌≡◌, ◌⊎◌, ℕ, false, List, Some, Ok, slice_get}
use Rattle.sv_component.specs.Steps.{ComponentSteps}
use Rattle.sv_container.specs.Container.{state_of}
use Rattle.sv_container.specs.Resuming.{StartsFrom}
use Rattle.sv_container.specs.Starting.{Starts}
use Rattle.sv_container.specs.Suspending.{HandsOver}
use Rattle.sv_container.specs.declared.container.Container.{Container}
use Rattle.sv_container.specs.declared.suspension.Suspension.{Suspension}
use Rattle.sv_context.specs.Deployment.{declared_policy, no_sessions}
use Rattle.sv_context.specs.Resuming.{resumed_store}
use Rattle.sv_context.specs.State.{ContextState}
use Rattle.sv_context.specs.Theory.{theory}
use Rattle.sv_journal.specs.Journal.{JournalState}
use Rattle.sv_lifecycle.specs.declared.deployment.Deployment.{Deployment}
use Rattle.sv_lifecycle.specs.declared.suspended_context.SuspendedContext.{SuspendedContext}
use Rattle.sv_live.specs.declared.live.Parts.{Parts}
use Rattle.sv_policy.specs.Resuming.{resumption}
use Rattle.sv_realm.specs.Realm.{successor}
use Rattle.sv_run.specs.Events.{Happening}
use Rattle.sv_run.specs.Laws.{LoggedInBefore}
use Rattle.sv_run.specs.Runs.{Answer, Run, deeds_of}
use Rattle.sv_run.specs.State.{State}
use Rattle.sv_session.specs.Calls.{HoldsCaller}

module _ {S F L : Type 0} where
  -- A context goes on from one of the same path that was suspended. Its sessions are those whose callers are still users, and
  -- its serials go on. Its constraints are those with which its descriptor lets the earlier ones resume.
  pub record GoesOnFrom (context before : ContextState S F L) : Type 0 where
    pub same_path : before.content.context_path ≡ context.content.context_path
    pub store : context.store ≡ resumed_store context.content.app context.users before.users before.store
    pub constraints : resumption context.content.app.constraints context.content.app.rules
        before.content.app.constraints before.policy.constraints before.policy.greatest ≡ Ok context.policy

  -- A context that goes on from none is new: it has the constraints of its descriptor, no session, and no serial that was used.
  pub record IsNew (context : ContextState S F L) : Type 0 where
    pub store : context.store ≡ no_sessions context.content.app
    pub constraints : context.policy ≡ declared_policy context.content.app

  -- Where a context of a container that resumes comes from.
  abbrev pub ComesFrom : ContextState S F L → List (ContextState S F L) → Type 0
  ComesFrom context earlier =
      IsNew context ⊎ ((place : ℕ) × (before : ContextState S F L) × (slice_get earlier place ≡ Some before) × GoesOnFrom context before)

  -- A session of a context that resumes holds a caller only if the session of that number held it in a context of the same
  -- path that was suspended, and the user then is still one: of the same name, salt and digest.
  pub record HeldIt (context : ContextState S F L) (number caller : ℕ) (earlier : List (ContextState S F L)) : Type 0 where
    pub place : ℕ
    pub before : ContextState S F L
    pub there : slice_get earlier place ≡ Some before
    pub same_path : before.content.context_path ≡ context.content.context_path
    pub old : ℕ
    pub held : HoldsCaller number old before.store
    pub is_user : successor context.users before.users old ≡ Some caller

module _ {S F L : Type 0} (moving : ComponentSteps S F L) where
  abbrev pub ContextsGoOn : Type 0 → Type 0
  ContextsGoOn W =
      (before : State (ContextState S F L) W) (parts : List (Parts S F L)) (suspension : Suspension) (stopped : JournalState)
      → HandsOver moving before parts suspension stopped
      → (deployments : List (Deployment S F L)) (words : W) (left : List SuspendedContext) (noted noted_after : JournalState) (container : Container S F L W)
      → StartsFrom moving deployments suspension.contexts.items suspension.moment words left noted container noted_after
      → (place : ℕ) (context : ContextState S F L) → slice_get (state_of container).world.contexts place ≡ Some context
      → ComesFrom context before.world.contexts

  abbrev pub CallersGoOn : Type 0 → Type 0
  CallersGoOn W =
      (before : State (ContextState S F L) W) (parts : List (Parts S F L)) (suspension : Suspension) (stopped : JournalState)
      → HandsOver moving before parts suspension stopped
      → (deployments : List (Deployment S F L)) (words : W) (left : List SuspendedContext) (noted noted_after : JournalState) (container : Container S F L W)
      → StartsFrom moving deployments suspension.contexts.items suspension.moment words left noted container noted_after
      → (place number caller : ℕ) (context : ContextState S F L) → slice_get (state_of container).world.contexts place ≡ Some context
      → HoldsCaller number caller context.store → HeldIt context number caller before.world.contexts

module _ {S F L W : Type 0} (moving : ComponentSteps S F L) (draws : W → ℕ × ℕ → W → Type 0) where
  -- So in a container that resumes, before its first event, a session holds a caller only by a login in the run before,
  -- with a name and a password that fitted, which nothing has undone.
  pub record HasLoggedIn (context : ContextState S F L) (number caller : ℕ) (answers : List (Answer (ContextState S F L))) (earlier : List (ContextState S F L)) : Type 0 where
    pub held : HeldIt context number caller earlier
    pub logged_in : LoggedInBefore (theory moving draws) held.place number held.old (deeds_of answers)

  abbrev pub CallersOfAResumedContainerHaveLoggedIn : Type 0
  CallersOfAResumedContainerHaveLoggedIn =
      (deployed : List (Deployment S F L)) (words : W) (noted noted_after : JournalState) (first : Container S F L W) (happenings : List Happening)
      (answers : List (Answer (ContextState S F L))) (after : State (ContextState S F L) W)
      → Starts moving deployed words noted (Ok first) noted_after
      → Run (theory moving draws) (state_of first) happenings answers after → after.stopped ≡ false
      → (parts : List (Parts S F L)) (suspension : Suspension) (stopped : JournalState) → HandsOver moving after parts suspension stopped
      → (deployments : List (Deployment S F L)) (next_words : W) (left : List SuspendedContext) (begun begun_after : JournalState) (second : Container S F L W)
      → StartsFrom moving deployments suspension.contexts.items suspension.moment next_words left begun second begun_after
      → (place number caller : ℕ) (context : ContextState S F L) → slice_get (state_of second).world.contexts place ≡ Some context
      → HoldsCaller number caller context.store → HasLoggedIn context number caller answers after.world.contexts
