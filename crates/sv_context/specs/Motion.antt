-- An empty run moves nothing, joined runs are a run, no run changes a context's path, and an edit only changes the
-- constraints.
use Rattle.std.proofs.Common.{[], ◌++◌, refl, ap, ◌∙◌}
use Rattle.sv_component.proofs.Running.{runs_join}
use Rattle.sv_component.specs.Runs.{IsRun}
use Rattle.sv_component.specs.Steps.{ComponentSteps}
use Rattle.sv_run.specs.Lawful.{EditsAlone, IsMotion, KeepsPath}
use Rattle.sv_tree.specs.SiteOfDescriptor.{Content}
use Rattle.sv_context.specs.Conduct.{IsMoved, conduct, unnoted}
use Rattle.sv_context.specs.Retirement.{retires_join, retires_none}
use Rattle.sv_context.specs.State.{ContextState, IsSameDeployment, world_of}

same_deployment : {S F L : Type 0} (context : ContextState S F L) → IsSameDeployment context context
same_deployment context = record { content = refl; policy = refl; users = refl; servlets = refl; filters = refl; listeners = refl; initialised = refl }

deployment_then : {S F L : Type 0} (before between after : ContextState S F L) → IsSameDeployment before between → IsSameDeployment between after → IsSameDeployment before after
deployment_then before between after one two = record {
  content = two.content ∙ one.content;
  policy = two.policy ∙ one.policy;
  users = two.users ∙ one.users;
  servlets = two.servlets ∙ one.servlets;
  filters = two.filters ∙ one.filters;
  listeners = two.listeners ∙ one.listeners;
  initialised = two.initialised ∙ one.initialised;
}

module _ {S F L : Type 0} (moving : ComponentSteps S F L) where
  -- An empty run moves nothing.
  stands : (context : ContextState S F L) → IsMoved moving context context
  unfolding IsRun
  stands context = record { made = []; runs = refl; retires = retires_none context.standings context.standings refl; stays = same_deployment context }

  goes_on : (before between after : ContextState S F L) → IsMoved moving before between → IsMoved moving between after → IsMoved moving before after
  goes_on before between after one two = record {
    made = one.made ++ two.made;
    runs = runs_join moving (world_of before unnoted) (world_of between unnoted) (world_of after unnoted) one.made two.made one.runs two.runs;
    retires = retires_join before.standings between.standings after.standings one.made two.made one.retires two.retires;
    stays = deployment_then before between after one.stays two.stays;
  }

  pub motion_by : IsMotion (conduct moving)
  motion_by = record { stands = stands; goes_on = goes_on }

  pub keeps_path_by : KeepsPath (λ (context : ContextState S F L). context.content.context_path) (conduct moving)
  keeps_path_by before after moves = ap (λ (content : Content). content.context_path) moves.stays.content

  pub edits_alone_by : EditsAlone (λ (context : ContextState S F L). context.content.context_path) (conduct moving)
  edits_alone_by = record {
    path = λ before after edit answer edits. ap (λ (context : ContextState S F L). context.content.context_path) edits.stays;
    sessions = λ before after edit answer edits. ap (λ (context : ContextState S F L). context.store) edits.stays;
  }
