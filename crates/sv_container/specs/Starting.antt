-- The start of a container (Jakarta Servlet 6.0, sections 2.3.1, 6.2.1 and 11.3.3).
use Rattle.std.specs.Prelude.{◌≡◌, ◌⊎◌, ℕ, List, [], Result, Ok, Err}
use Rattle.sv_component.specs.Steps.{ComponentSteps}
use Rattle.sv_container.specs.Container.{state_of}
use Rattle.sv_container.specs.Paths.{ArePermitted, Forbids}
use Rattle.sv_container.specs.declared.container.Container.{Container}
use Rattle.sv_container.specs.declared.new_fault.NewFault.{NewFault}
use Rattle.sv_context.specs.Several.{DeploysAll, FailsAll, paths_of}
use Rattle.sv_context.specs.State.{ContextState}
use Rattle.sv_context.specs.declared.deploy_fault.DeployAllFault.{DeployAllFault}
use Rattle.sv_lifecycle.specs.declared.deployment.Deployment.{Deployment}
use Rattle.sv_run.specs.Host.{opening}
use Rattle.sv_journal.specs.Journal.{JournalState}
use Rattle.sv_journal.specs.declared.start_code.NewCode.TheVariants.{Start}
use Rattle.sv_journal.specs.declared.start_code.StartCode.{StartCode}
use Rattle.sv_journal.specs.declared.start_code.StartCode.TheVariants.{PartsMismatch, InitFailed, NoMemory}

-- the context path that goes with the code of a context: empty if memory ran out
abbrev pub named_path : StartCode → List ℕ → List ℕ
named_path PartsMismatch path = path
named_path (InitFailed place) path = path
named_path NoMemory path = []

module _ {S F L : Type 0} (moving : ComponentSteps S F L) where
  -- one of the deployments does not become a context, and the contexts before it are undeployed again
  pub record Fails (deployments : List (Deployment S F L)) (before : JournalState) (fault : NewFault S F L) (after : JournalState) : Type 0 where
    pub failure : DeployAllFault S F L
    pub fails : FailsAll moving deployments before failure after
    pub code : fault.code ≡ Start failure.code
    pub context : fault.context ≡ named_path failure.code failure.context
    pub back : fault.deployments.items ≡ failure.deployments.items

  -- nothing was called, and the deployments are returned unchanged
  pub record DoesNothing (deployments : List (Deployment S F L)) (before : JournalState) (fault : NewFault S F L) (after : JournalState) : Type 0 where
    pub back : fault.deployments.items ≡ deployments
    pub journal : after ≡ before

  -- a start is refused before its first call, or because a context does not start
  abbrev pub RefusesDeployments : List (Deployment S F L) → JournalState → NewFault S F L → JournalState → Type 0
  RefusesDeployments deployments before fault after =
      (Forbids fault.code (paths_of deployments) fault.context × DoesNothing deployments before fault after)
      ⊎ (ArePermitted (paths_of deployments) × Fails deployments before fault after)

  -- the deployments become contexts and the run begins with them, or the start is refused
  abbrev pub Starts : {W : Type 0} → List (Deployment S F L) → W → JournalState → Result (Container S F L W) (NewFault S F L) → JournalState → Type 0
  Starts deployments words before (Ok container) after =
      (contexts : List (ContextState S F L)) × DeploysAll moving deployments before contexts after
      × ArePermitted (paths_of deployments) × (state_of container ≡ opening contexts words)
  Starts deployments words before (Err fault) after = RefusesDeployments deployments before fault after
