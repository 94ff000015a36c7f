-- The start of a container that resumes (Jakarta Servlet 6.0, sections 2.3.1, 6.2.1, 7.5, 11.3.3, 11.3.4 and 13.8).
use Rattle.std.specs.Prelude.{◌≡◌, ℕ, List, Result, Ok, Err, Option, Vec}
use Rattle.std.specs.declared.alloc.Global.{Global}
use Rattle.sv_component.specs.Steps.{ComponentSteps}
use Rattle.sv_container.specs.Container.{state_of}
use Rattle.sv_container.specs.Paths.{ArePermitted}
use Rattle.sv_container.specs.Starting.{RefusesDeployments}
use Rattle.sv_container.specs.declared.container.Container.{Container}
use Rattle.sv_container.specs.declared.new_fault.NewFault.{NewFault}
use Rattle.sv_container.specs.declared.suspension.Suspension.{Suspension}
use Rattle.sv_context.specs.Resuming.{ResumesAll, TakesAll}
use Rattle.sv_context.specs.Several.{DeploysAll, paths_of}
use Rattle.sv_context.specs.State.{ContextState}
use Rattle.sv_context.specs.declared.resumption.Resumption.{Resumption}
use Rattle.sv_journal.specs.Journal.{JournalState}
use Rattle.sv_lifecycle.specs.declared.deployment.Deployment.{Deployment}
use Rattle.sv_lifecycle.specs.declared.suspended_context.SuspendedContext.{SuspendedContext}
use Rattle.sv_run.specs.Events.{raised}
use Rattle.sv_run.specs.Host.{opening}
use Rattle.sv_run.specs.State.{State}

-- The state before any event, at the time of an earlier container.
abbrev pub resuming : {C W : Type 0} → ℕ → List C → W → State C W
resuming moment contexts words = record (opening contexts words) { moment = raised 0 moment }

module _ {S F L : Type 0} (moving : ComponentSteps S F L) where
  -- The deployments become contexts. Then each resumes with what remains of the context of its path; the rest is left.
  pub record StartsFrom {W : Type 0} (deployments : List (Deployment S F L)) (suspended : List SuspendedContext) (moment : ℕ) (words : W)
      (left : List SuspendedContext) (before : JournalState) (container : Container S F L W) (after : JournalState) : Type 0 where
    pub contexts : List (ContextState S F L)
    pub between : JournalState
    pub deploys : DeploysAll moving deployments before contexts between
    pub permitted : ArePermitted (paths_of deployments)
    pub resumptions : List (Option Resumption)
    pub takes : TakesAll deployments suspended resumptions left
    pub resumed : List (ContextState S F L)
    pub resumes : ResumesAll moving resumptions contexts between resumed after
    pub state : state_of container ≡ resuming moment resumed words

  -- A start is refused as one without a suspension is.
  abbrev pub StartsOr : {W : Type 0} → List (Deployment S F L) → List SuspendedContext → ℕ → W → List SuspendedContext → JournalState
      → Result (Container S F L W) (NewFault S F L) → JournalState → Type 0
  StartsOr deployments suspended moment words left before (Ok container) after = StartsFrom deployments suspended moment words left before container after
  StartsOr deployments suspended moment words left before (Err fault) after = RefusesDeployments moving deployments before fault after

  abbrev pub ResumesOr : {W : Type 0} → List (Deployment S F L) → Suspension → W → JournalState
      → Result (Container S F L W × Vec SuspendedContext Global) (NewFault S F L) → JournalState → Type 0
  ResumesOr deployments suspension words before (Ok started) after =
      StartsFrom deployments suspension.contexts.items suspension.moment words started.1.items before started.0 after
  ResumesOr deployments suspension words before (Err fault) after = RefusesDeployments moving deployments before fault after
