-- The outcome of a request to a container (Jakarta Servlet 6.0, sections 3.5, 10.5, 12.1 and 13.8).
use Rattle.std.specs.Prelude.{◌≡◌, ℕ, List, map, Option}
use Rattle.sv_component.specs.Steps.{ComponentSteps}
use Rattle.sv_context.specs.Several.{DeploysAll}
use Rattle.sv_context.specs.Deployment.{declared_policy}
use Rattle.sv_context.specs.State.{ContextState}
use Rattle.sv_lifecycle.specs.declared.deployment.Deployment.{Deployment}
use Rattle.sv_policy.specs.Context.{policy}
use Rattle.sv_policy.specs.Explanation as explanation
use Rattle.sv_policy.specs.declared.explained_context.ContextPolicy.{ContextPolicy}
use Rattle.sv_journal.specs.Journal.{JournalState}

-- contexts by their paths, their current constraints and their users
abbrev pub policies_of_contexts : {S F L : Type 0} → List (ContextState S F L) → List ContextPolicy
policies_of_contexts contexts = map (λ context. policy context.content.context_path context.policy context.users) contexts

abbrev pub explanation_of : {S F L : Type 0} → List (ContextState S F L) → List ℕ → List ℕ → Option (List ℕ) → explanation.Answer
explanation_of contexts method target user = explanation.explanation (policies_of_contexts contexts) method target user

-- the same for deployments
abbrev pub policies_of : {S F L : Type 0} → List (Deployment S F L) → List ContextPolicy
policies_of deployments = map (λ deployment. policy deployment.path (declared_policy deployment.descriptor) deployment.users) deployments

-- started contexts explain a request by their deployments
abbrev pub ExplainsWhatWasDeployed : {S F L : Type 0} → ComponentSteps S F L → Type 0
ExplainsWhatWasDeployed {S} {F} {L} moving =
    (deployments : List (Deployment S F L)) (before after : JournalState) (contexts : List (ContextState S F L))
    → DeploysAll moving deployments before contexts after
    → policies_of_contexts contexts ≡ policies_of deployments
