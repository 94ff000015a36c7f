-- The start and the stop of a context (Jakarta Servlet 6.0, sections 2.3, 7.5, 10.12 and 11.3).
use Rattle.std.specs.Prelude.{◌≡◌, ◌*◌, length, Result, Ok, Err}
use Rattle.sv_component.specs.Runs.{Runs}
use Rattle.sv_component.specs.Steps.{ComponentSteps}
use Rattle.sv_descriptor.specs.Version.{max_sessions}
use Rattle.sv_descriptor.specs.declared.web_app.WebApp.{WebApp}
use Rattle.sv_journal.specs.Journal.{JournalState}
use Rattle.sv_live.specs.Calls.{stop_calls}
use Rattle.sv_live.specs.Standing.{LiveState}
use Rattle.sv_lifecycle.specs.Starting.{Starts}
use Rattle.sv_live.specs.World.{world}
use Rattle.sv_lifecycle.specs.declared.start_fault.StartFault.{StartFault}
use Rattle.sv_policy.specs.Compiled.{Standing, compiled}
use Rattle.sv_session.specs.Store.{Store, empty_store}
use Rattle.sv_tree.specs.SiteOfDescriptor.{Content}
use Rattle.sv_context.specs.State.{ContextState, context_of, in_service, world_of}
use Rattle.sv_context.specs.declared.deploy_fault.DeployFault.{DeployFault}
use Rattle.sv_lifecycle.specs.declared.deployment.Deployment.{Deployment}
use Rattle.sv_context.specs.declared.deployment.TheConstants.{SECONDS_OF_MINUTE}

abbrev pub content_of : {S F L : Type 0} → Deployment S F L → Content
content_of deployment = record { context_path = deployment.path; app = deployment.descriptor; files = deployment.files }

-- The constraints, as they were deployed.
abbrev pub declared_policy : WebApp → Standing
declared_policy app = compiled app.constraints app.rules

-- An empty session store. The descriptor's version limits the number of sessions, and the descriptor gives the timeout
-- of idle sessions in minutes.
abbrev pub no_sessions : WebApp → Store
no_sessions app = empty_store (max_sessions app.version) (app.session.timeout * SECONDS_OF_MINUTE)

-- The context with the started components, or the deployment with the components as the calls of the start left them.
abbrev pub deployed : {S F L : Type 0} → Deployment S F L → Result (LiveState S F L) (StartFault S F L) → Result (ContextState S F L) (DeployFault S F L)
deployed deployment (Ok live) =
    Ok (context_of (content_of deployment) (declared_policy deployment.descriptor) deployment.users live (no_sessions deployment.descriptor))
deployed deployment (Err fault) = Err record { fault = fault.code; deployment = record deployment { parts = fault.parts } }

module _ {S F L : Type 0} (moving : ComponentSteps S F L) where
  -- The components of a deployment are started.
  pub record Deploys (deployment : Deployment S F L) (before : JournalState) (result : Result (ContextState S F L) (DeployFault S F L)) (after : JournalState) : Type 0 where
    pub started : Result (LiveState S F L) (StartFault S F L)
    pub starts : Starts moving deployment.path deployment.descriptor deployment.parts before started after
    pub is : result ≡ deployed deployment started

  -- The context stops, and its deployment is returned, with the components as the calls of the stop left them.
  pub record Undeploys (context : ContextState S F L) (before : JournalState) (result : Deployment S F L) (after : JournalState) : Type 0 where
    pub stops : Runs moving
        (world_of context before) (stop_calls (length context.listeners) (in_service context) context.store.sessions) (world result.path result.parts after)
    pub content : content_of result ≡ context.content
    pub users : result.users ≡ context.users
