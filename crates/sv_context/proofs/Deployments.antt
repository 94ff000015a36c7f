-- The start and the stop of a deployment.
use Rattle.std.proofs.Common.{◌≡◌, ℕ, Bool, true, false, List, length, refl, sym, ap, subst, Result, Ok, Err}
use Rattle.std.specs.Prelude.{MatchBool}
use Rattle.sv_component.specs.Runs.{Runs}
use Rattle.sv_component.specs.Steps.{ComponentSteps}
use Rattle.sv_descriptor.specs.declared.web_app.WebApp.{WebApp}
use Rattle.sv_files.specs.declared.files.File.{File}
use Rattle.sv_journal.specs.Journal.{JournalState}
use Rattle.sv_live.specs.Calls.{stop_calls}
use Rattle.sv_lifecycle.specs.Fit.{Fits}
use Rattle.sv_lifecycle.specs.Starting.{IsResultOf, Outcome, RefusesUntouched, Started, Starts, Undone, Untouched}
use Rattle.sv_live.specs.Standing as standing
use Rattle.sv_live.specs.Standing.{LiveState, live_world}
use Rattle.sv_live.specs.World.{world}
use Rattle.sv_live.specs.declared.live.Parts.{Parts}
use Rattle.sv_journal.specs.declared.start_code.StartCode.{StartCode}
use Rattle.sv_journal.specs.declared.start_code.StartCode.TheVariants.{NoMemory, PartsMismatch}
use Rattle.sv_lifecycle.specs.declared.start_fault.StartFault.{StartFault}
use Rattle.sv_policy.specs.Compiled.{Standing}
use Rattle.sv_realm.specs.declared.account.User.{User}
use Rattle.sv_session.specs.Store.{Store}
use Rattle.sv_tree.specs.SiteOfDescriptor.{Content}
use Rattle.sv_context.specs.Deployment.{Deploys, Undeploys, content_of, declared_policy, deployed, no_sessions}
use Rattle.sv_context.specs.State.{AreComponentsOf, context_of, in_service, world_of}
use Rattle.sv_lifecycle.specs.declared.deployment.Deployment.{Deployment}
use Rattle.sv_context.proofs.Expiries.{grows_nothing, world_same}

-- The start succeeds.
pub deployed_so : {S F L : Type 0} (deployment : Deployment S F L) (started : Result (LiveState S F L) (StartFault S F L)) (live : LiveState S F L)
    (content : Content) (policy : Standing) (users : List User) (store : Store)
    → started ≡ Ok live → content ≡ content_of deployment → policy ≡ declared_policy deployment.descriptor → users ≡ deployment.users → store ≡ no_sessions deployment.descriptor
    → Ok (context_of content policy users live store) ≡ deployed deployment started
deployed_so deployment started live content policy users store is its_content its_policy its_users its_store = rw (is, its_content, its_policy, its_users, its_store) refl

-- The start is refused.
pub refused_so : {S F L : Type 0} (deployment : Deployment S F L) (started : Result (LiveState S F L) (StartFault S F L)) (fault : StartFault S F L)
    → started ≡ Err fault → Err (record { fault = fault.code; deployment = record deployment { parts = fault.parts } }) ≡ deployed deployment started
refused_so deployment started fault is = rw is refl

-- The components of a successful start are those that its context declares.
components_of : {S F L : Type 0} (path : List ℕ) (app : WebApp) (files : List File) (parts : Parts S F L) (live : LiveState S F L) (after : JournalState) (outcome : Outcome)
    → IsResultOf path app parts outcome (Ok live) after → AreComponentsOf (record { context_path = path; app = app; files = files }) live
components_of path app files parts live after (Started inits) is = record {
  context = is.1.context;
  counts = record { servlets = is.1.servlets; filters = is.1.filters; listeners = is.1.listeners };
}
components_of path app files parts live after (Undone inits) is = absurd is
components_of path app files parts live after Untouched is = absurd is

pub components_so : {S F L : Type 0} (moving : ComponentSteps S F L) (deployment : Deployment S F L) (started : Result (LiveState S F L) (StartFault S F L)) (live : LiveState S F L)
    (content : Content) (before after : JournalState)
    → started ≡ Ok live → content ≡ content_of deployment → Starts moving deployment.path deployment.descriptor deployment.parts before started after
    → AreComponentsOf content live
components_so moving deployment started live content before after is its_content starts =
    subst (λ content. AreComponentsOf content live) (sym its_content)
    (components_of deployment.path deployment.descriptor deployment.files deployment.parts live after starts.outcome
    (subst (λ result. IsResultOf deployment.path deployment.descriptor deployment.parts starts.outcome result after) is starts.is))

module _ {S F L : Type 0} (moving : ComponentSteps S F L) where
  -- The stop of the started components is that of the context.
  pub stopped_so : (content : Content) (policy : Standing) (users : List User) (live : LiveState S F L) (store : Store) (parts : Parts S F L) (noted noted_after : JournalState)
      → AreComponentsOf content live
      → Runs moving (live_world live noted) (stop_calls (length live.parts.listeners.items) (standing.in_service live) store.sessions) (world live.context parts noted_after)
      → Runs moving (world_of (context_of content policy users live store) noted)
      (stop_calls (length live.parts.listeners.items) (in_service (context_of content policy users live store)) store.sessions) (world content.context_path parts noted_after)
  stopped_so content policy users live store parts noted noted_after components stops =
      subst (λ from. Runs moving from (stop_calls (length live.parts.listeners.items) (standing.in_service live) store.sessions) (world content.context_path parts noted_after))
      (world_same content policy users live store noted components)
      (subst (λ path. Runs moving (live_world live noted) (stop_calls (length live.parts.listeners.items) (standing.in_service live) store.sessions) (world path parts noted_after))
      components.context stops)

  -- A deployment that is refused before any call.
  undone : (deployment : Deployment S F L) (code : StartCode) (journal : JournalState)
      → RefusesUntouched deployment.descriptor deployment.parts code
      → Deploys moving deployment journal (Err (record { fault = code; deployment = deployment })) journal
  undone deployment code journal refuses = record {
    started = Err (record { code = code; parts = deployment.parts });
    starts = record {
      outcome = Untouched;
      made = grows_nothing moving (world deployment.path deployment.parts journal);
      is = refuses;
    };
    is = refl;
  }

  -- The components match the descriptor, but memory ran out.
  pub no_memory_so : (deployment : Deployment S F L) (app : WebApp) (tested : Bool) (code : StartCode) (journal : JournalState)
      → app ≡ deployment.descriptor → MatchBool tested (Fits app deployment.parts) (Fits app deployment.parts → ⊥) → tested ≡ true → code ≡ NoMemory
      → Deploys moving deployment journal (Err (record { fault = code; deployment = deployment })) journal
  no_memory_so deployment app false code journal same fits is its_code = cc
  no_memory_so deployment app true code journal same fits is its_code =
      subst (λ code. Deploys moving deployment journal (Err (record { fault = code; deployment = deployment })) journal) (sym its_code)
      (undone deployment NoMemory journal (subst (λ app. Fits app deployment.parts) same fits))

  -- The components do not match the descriptor.
  pub mismatch_so : (deployment : Deployment S F L) (app : WebApp) (tested : Bool) (code : StartCode) (journal : JournalState)
      → app ≡ deployment.descriptor → MatchBool tested (Fits app deployment.parts) (Fits app deployment.parts → ⊥) → tested ≡ false → code ≡ PartsMismatch
      → Deploys moving deployment journal (Err (record { fault = code; deployment = deployment })) journal
  mismatch_so deployment app true code journal same fits is its_code = cc
  mismatch_so deployment app false code journal same fits is its_code =
      subst (λ code. Deploys moving deployment journal (Err (record { fault = code; deployment = deployment })) journal) (sym its_code)
      (undone deployment PartsMismatch journal (subst (λ app. Fits app deployment.parts → ⊥) same fits))

  -- The deployment that is returned.
  pub undeployed_so : (content : Content) (policy : Standing) (users : List User) (live : LiveState S F L) (store : Store) (parts : Parts S F L) (noted noted_after : JournalState)
      (path : List ℕ) (app : WebApp) (files : List File)
      → AreComponentsOf content live → record { context_path = path; app = app; files = files } ≡ content
      → Runs moving (live_world live noted) (stop_calls (length live.parts.listeners.items) (standing.in_service live) store.sessions) (world live.context parts noted_after)
      → Undeploys moving (context_of content policy users live store) noted (record { path = path; descriptor = app; files = files; users = users; parts = parts }) noted_after
  undeployed_so content policy users live store parts noted noted_after path app files components same stops = record {
    stops =
        subst (λ path. Runs moving (world_of (context_of content policy users live store) noted)
        (stop_calls (length live.parts.listeners.items) (in_service (context_of content policy users live store)) store.sessions) (world path parts noted_after))
        (sym (ap (λ (its : Content). its.context_path) same))
        (stopped_so content policy users live store parts noted noted_after components stops);
    content = same;
    users = refl;
  }
