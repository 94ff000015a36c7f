-- Contexts that start have the policies of the deployments.
use Rattle.std.proofs.Common.{◌≡◌, [], ◌∷◌, Result, Ok, Err, refl, ap, ◌∙◌}
use Rattle.sv_component.specs.Steps.{ComponentSteps}
use Rattle.sv_container.specs.Explaining.{ExplainsWhatWasDeployed, policies_of_contexts}
use Rattle.sv_context.specs.Deployment.{declared_policy, deployed}
use Rattle.sv_context.specs.State.{ContextState}
use Rattle.sv_context.specs.declared.deploy_fault.DeployFault.{DeployFault}
use Rattle.sv_lifecycle.specs.declared.deployment.Deployment.{Deployment}
use Rattle.sv_policy.specs.Context.{policy}
use Rattle.sv_policy.specs.declared.explained_context.ContextPolicy.{ContextPolicy}
use Rattle.sv_live.specs.Standing.{LiveState}
use Rattle.sv_lifecycle.specs.declared.start_fault.StartFault.{StartFault}

module _ {S F L : Type 0} where
  -- the policy of a context that may have been started
  abbrev policy_in : ContextPolicy → Result (ContextState S F L) (DeployFault S F L) → ContextPolicy
  policy_in other (Ok context) = policy context.content.context_path context.policy context.users
  policy_in other (Err fault) = other

  policy_started : (deployment : Deployment S F L) (started : Result (LiveState S F L) (StartFault S F L))
      → policy_in (policy deployment.path (declared_policy deployment.descriptor) deployment.users) (deployed deployment started)
      ≡ policy deployment.path (declared_policy deployment.descriptor) deployment.users
  policy_started deployment (Ok live) = refl
  policy_started deployment (Err fault) = refl

module _ {S F L : Type 0} (moving : ComponentSteps S F L) where
  -- contexts that start have the policies of the deployments
  pub policies_stay : ExplainsWhatWasDeployed moving
  policies_stay [] before after contexts starts = ap policies_of_contexts starts.0
  policies_stay (deployment ∷ deployments) before after contexts starts =
      ap policies_of_contexts starts.5
      ∙ (λ i. (ap (policy_in (policy deployment.path (declared_policy deployment.descriptor) deployment.users)) starts.3.is ∙ policy_started deployment starts.3.started) i
      ∷ policies_stay deployments starts.2 after starts.1 starts.4 i)
