-- A chain of containers: each but the first resumes with what the one before handed over (Jakarta Servlet 6.0, chapter 7 and
-- sections 13.6.3 and 13.8).
use Rattle.std.specs.Prelude.{◌≡◌, ◌≢◌, ◌⊎◌, ℕ, false, List, [], ◌∷◌, ◌++◌, Some, Ok, slice_get}
use Rattle.std.specs.List.{AllByRecursion, AllPairs}
use Rattle.sv_component.specs.Steps.{ComponentSteps}
use Rattle.sv_container.specs.Container.{state_of}
use Rattle.sv_container.specs.Resuming.{StartsFrom}
use Rattle.sv_container.specs.Starting.{Starts}
use Rattle.sv_container.specs.Suspending.{HandsOver}
use Rattle.sv_container.specs.declared.container.Container.{Container}
use Rattle.sv_container.specs.declared.suspension.Suspension.{Suspension}
use Rattle.sv_context.specs.State.{ContextState}
use Rattle.sv_context.specs.Theory.{theory}
use Rattle.sv_headline.specs.Record.{IsLawfulRun}
use Rattle.sv_headline.specs.Restarts.{HeldIt}
use Rattle.sv_journal.specs.Journal.{JournalState}
use Rattle.sv_lifecycle.specs.declared.deployment.Deployment.{Deployment}
use Rattle.sv_lifecycle.specs.declared.suspended_context.SuspendedContext.{SuspendedContext}
use Rattle.sv_live.specs.declared.live.Parts.{Parts}
use Rattle.sv_run.specs.Events.{Happening}
use Rattle.sv_run.specs.Laws.{HoldsAt, KeepsCaller, LoggedInBefore}
use Rattle.sv_run.specs.Runs.{Answer, Run, deeds_of}
use Rattle.sv_run.specs.State.{State}
use Rattle.sv_session.specs.Runs.{Call, ids_given, left_after}

-- A container of a chain: its deployments, its state at first, its events with their answers, and its state at last.
pub record Life (S F L W : Type 0) : Type 0 where
  pub deployments : List (Deployment S F L)
  pub first : State (ContextState S F L) W
  pub happenings : List Happening
  pub answers : List (Answer (ContextState S F L))
  pub last : State (ContextState S F L) W

-- The contexts that the latest container of a chain leaves.
abbrev pub contexts_left : {S F L W : Type 0} → List (Life S F L W) → List (ContextState S F L)
contexts_left [] = []
contexts_left (life ∷ lives) = life.last.world.contexts

module _ {S F L W : Type 0} (moving : ComponentSteps S F L) (draws : W → ℕ × ℕ → W → Type 0) where
  -- A container has run, and no event ran out of memory.
  pub record HasRun (life : Life S F L W) : Type 0 where
    pub run : Run (theory moving draws) life.first life.happenings life.answers life.last
    pub runs : life.last.stopped ≡ false

  -- It is started.
  pub record IsStarted (life : Life S F L W) : Type 0 where
    pub words : W
    pub noted : JournalState
    pub noted_after : JournalState
    pub container : Container S F L W
    pub starts : Starts moving life.deployments words noted (Ok container) noted_after
    pub first : life.first ≡ state_of container

  -- The container before is suspended, and it resumes with what that one hands over.
  pub record Follows (earlier life : Life S F L W) : Type 0 where
    pub parts : List (Parts S F L)
    pub suspension : Suspension
    pub stopped : JournalState
    pub hands_over : HandsOver moving earlier.last parts suspension stopped
    pub words : W
    pub left : List SuspendedContext
    pub noted : JournalState
    pub noted_after : JournalState
    pub container : Container S F L W
    pub resumes : StartsFrom moving life.deployments suspension.contexts.items suspension.moment words left noted container noted_after
    pub first : life.first ≡ state_of container

  -- The containers of a chain, the latest first.
  abbrev pub IsChain : List (Life S F L W) → Type 0
  IsChain [] = Unit {0}
  IsChain (life ∷ []) = HasRun life × IsStarted life
  IsChain (life ∷ earlier ∷ lives) = HasRun life × Follows earlier life × IsChain (earlier ∷ lives)

  -- Each container of a chain runs lawfully.
  abbrev pub EachLivesLawfully : Type 0
  EachLivesLawfully =
      (lives : List (Life S F L W)) → IsChain lives
      → AllByRecursion (λ life. IsLawfulRun moving draws life.first life.happenings life.answers life.last) lives

  -- A session logged in as the caller, in the latest container or in one before it. There it was the user who is this caller
  -- now. Each message since then has kept it.
  abbrev pub LoggedIn : ℕ → ℕ → ℕ → List (Life S F L W) → Type 0
  LoggedIn place number caller [] = ⊥
  LoggedIn place number caller (life ∷ lives) =
      LoggedInBefore (theory moving draws) place number caller (deeds_of life.answers)
      ⊎ (AllByRecursion (KeepsCaller (theory moving draws) place number caller) (deeds_of life.answers)
      × (context : ContextState S F L) × (slice_get life.first.world.contexts place ≡ Some context)
      × (held : HeldIt context number caller (contexts_left lives)) × LoggedIn held.place number held.old lives)

  -- A session holds a caller only by such a login, with a name and a password that fitted, which nothing has undone.
  abbrev pub CallersOfAChainHaveLoggedIn : Type 0
  CallersOfAChainHaveLoggedIn =
      (lives : List (Life S F L W)) → IsChain lives → (place number caller : ℕ)
      → HoldsAt (theory moving draws) place number caller (contexts_left lives) → LoggedIn place number caller lives

  -- The ids that calls gave in the context at a place, and in the contexts that it goes on from, the earliest first.
  abbrev pub AreIdsOf : ℕ → List (List ℕ) → List (Life S F L W) → Type 0
  AreIdsOf place ids [] = ⊥
  AreIdsOf place ids (life ∷ lives) =
      (first : ContextState S F L) × (last : ContextState S F L) × (calls : List Call)
      × (slice_get life.first.world.contexts place ≡ Some first) × (slice_get life.last.world.contexts place ≡ Some last)
      × (last.store ≡ left_after calls first.store)
      × (((first.store.serial ≡ 0) × (ids ≡ ids_given calls first.store))
      ⊎ ((earlier : ℕ) × (before : ContextState S F L) × (given : List (List ℕ))
      × (slice_get (contexts_left lives) earlier ≡ Some before) × (first.store.serial ≡ before.store.serial)
      × AreIdsOf earlier given lives × (ids ≡ given ++ ids_given calls first.store)))

  -- Each context of a chain has such ids, and no two of them are the same.
  pub record NoIdOfAChainIsGivenTwice : Type 0 where
    pub are : (lives : List (Life S F L W)) → IsChain lives → (place : ℕ) (context : ContextState S F L)
        → slice_get (contexts_left lives) place ≡ Some context → (ids : List (List ℕ)) × AreIdsOf place ids lives
    pub differ : (lives : List (Life S F L W)) (place : ℕ) (ids : List (List ℕ)) → AreIdsOf place ids lives → AllPairs (λ a b. a ≢ b) ids
