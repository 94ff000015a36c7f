-- Contexts that start and stop one after another, in the order of their list (Jakarta Servlet 6.0, sections 2.3, 6.2.1
-- and 11.3).
use Rattle.std.specs.Prelude.{◌≡◌, ℕ, List, [], ◌∷◌, ◌++◌, map, Ok, Err}
use Rattle.sv_component.specs.Steps.{ComponentSteps}
use Rattle.sv_context.specs.Deployment.{Deploys, Undeploys}
use Rattle.sv_context.specs.State.{ContextState}
use Rattle.sv_context.specs.declared.deploy_fault.DeployAllFault.{DeployAllFault}
use Rattle.sv_context.specs.declared.deploy_fault.DeployFault.{DeployFault}
use Rattle.sv_lifecycle.specs.declared.deployment.Deployment.{Deployment}
use Rattle.sv_journal.specs.Journal.{JournalState}
use Rattle.sv_live.specs.declared.live.Parts.{Parts}

abbrev pub paths_of : {S F L : Type 0} → List (Deployment S F L) → List (List ℕ)
paths_of deployments = map (λ deployment. deployment.path) deployments

module _ {S F L : Type 0} (moving : ComponentSteps S F L) where
  -- Each deployment becomes a context.
  abbrev pub DeploysAll : List (Deployment S F L) → JournalState → List (ContextState S F L) → JournalState → Type 0
  DeploysAll [] before contexts after = (contexts ≡ []) × (after ≡ before)
  DeploysAll (deployment ∷ deployments) before contexts after =
      (context : ContextState S F L) × (others : List (ContextState S F L)) × (between : JournalState)
      × Deploys moving deployment before (Ok context) between
      × DeploysAll deployments between others after × (contexts ≡ context ∷ others)

  -- The deployment of each context is returned.
  abbrev pub UndeploysAll : List (ContextState S F L) → JournalState → List (Deployment S F L) → JournalState → Type 0
  UndeploysAll [] before back after = (back ≡ []) × (after ≡ before)
  UndeploysAll (context ∷ contexts) before back after =
      (first : Deployment S F L) × (others : List (Deployment S F L)) × (between : JournalState)
      × Undeploys moving context before first between
      × UndeploysAll contexts between others after × (back ≡ first ∷ others)

  -- The deployments before one become contexts, that one does not start, and the contexts are undeployed again.
  pub record FailsAll (deployments : List (Deployment S F L)) (before : JournalState) (fault : DeployAllFault S F L) (after : JournalState) : Type 0 where
    pub front : List (Deployment S F L)
    pub failed : Deployment S F L
    pub rest : List (Deployment S F L)
    pub are : deployments ≡ front ++ failed ∷ rest
    pub contexts : List (ContextState S F L)
    pub started : JournalState
    pub starts : DeploysAll front before contexts started
    pub refusal : DeployFault S F L
    pub undone : JournalState
    pub fails : Deploys moving failed started (Err refusal) undone
    pub stopped : List (Deployment S F L)
    pub stops : UndeploysAll contexts undone stopped after
    pub code : fault.code ≡ refusal.fault
    pub context : fault.context ≡ failed.path
    pub back : fault.deployments.items ≡ stopped ++ refusal.deployment ∷ rest

  -- The contexts stop, and their components are returned.
  pub record GivesBackParts (contexts : List (ContextState S F L)) (before : JournalState) (parts : List (Parts S F L)) (after : JournalState) : Type 0 where
    pub back : List (Deployment S F L)
    pub undeploys : UndeploysAll contexts before back after
    pub are : parts ≡ map (λ deployment. deployment.parts) back
