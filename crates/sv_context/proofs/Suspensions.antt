-- Contexts that are suspended, and what contexts resume with.
use Rattle.std.proofs.Common.{◌≡◌, ℕ, List, [], ◌∷◌, ◌++◌, length, refl, ap, ◌∙◌, subst}
use Rattle.sv_component.specs.Runs.{Runs}
use Rattle.sv_component.specs.Steps.{ComponentSteps}
use Rattle.sv_constraints.specs.declared.constraint.Constraint.{Constraint}
use Rattle.sv_context.proofs.Deployments.{stopped_so}
use Rattle.sv_context.specs.State.{AreComponentsOf, ContextState, context_of}
use Rattle.sv_context.specs.Suspending.{Suspends, SuspendsAll}
use Rattle.sv_descriptor.specs.declared.web_app.WebApp.{WebApp}
use Rattle.sv_files.specs.declared.files.File.{File}
use Rattle.sv_journal.specs.Journal.{JournalState}
use Rattle.sv_lifecycle.specs.declared.suspended_context.SuspendedContext.{SuspendedContext}
use Rattle.sv_live.specs.Calls.{stop_calls}
use Rattle.sv_live.specs.Standing as standing
use Rattle.sv_live.specs.Standing.{LiveState, live_world}
use Rattle.sv_live.specs.World.{world}
use Rattle.sv_live.specs.declared.live.Parts.{Parts}
use Rattle.sv_policy.specs.Compiled.{Standing}
use Rattle.sv_realm.specs.declared.account.User.{User}
use Rattle.sv_session.specs.Store.{SessionsState, Store}
use Rattle.sv_tree.specs.SiteOfDescriptor.{Content}

module _ {S F L : Type 0} (moving : ComponentSteps S F L) where
  -- The components of a context stop without sessions, and the rest of the context is handed over.
  pub suspended_so : (content : Content) (policy : Standing) (users : List User) (live : LiveState S F L) (sessions : SessionsState) (none : Store)
      (parts : Parts S F L) (noted noted_after : JournalState) (path : List ℕ) (app : WebApp) (files : List File)
      (declared constraints : List Constraint) (greatest : ℕ)
      → AreComponentsOf content live → record { context_path = path; app = app; files = files } ≡ content → none.sessions ≡ []
      → declared ≡ app.constraints → constraints ≡ policy.constraints → greatest ≡ policy.greatest
      → Runs moving (live_world live noted) (stop_calls (length live.parts.listeners.items) (standing.in_service live) none.sessions) (world live.context parts noted_after)
      → Suspends moving (context_of content policy users live sessions.store) noted parts
      (record { path = path; users = users; declared = declared; constraints = constraints; greatest = greatest; sessions = sessions }) noted_after
  suspended_so content policy users live sessions none parts noted noted_after path app files declared constraints greatest components same empty is_declared is_left is_greatest stops = record {
    stops =
        stopped_so moving content policy users live (record none { sessions = [] }) parts noted noted_after components
        (subst (λ ones. Runs moving (live_world live noted) (stop_calls (length live.parts.listeners.items) (standing.in_service live) ones) (world live.context parts noted_after)) empty stops);
    remains = record {
      path = ap (λ (its : Content). its.context_path) same;
      users = refl;
      declared = is_declared ∙ ap (λ (its : Content). its.app.constraints) same;
      constraints = is_left;
      greatest = is_greatest;
      store = refl;
    };
  }

  -- One more context is suspended.
  pub suspends_next : (front : List (ContextState S F L)) (before between after : JournalState) (parts : List (Parts S F L)) (remains : List SuspendedContext)
      (context : ContextState S F L) (stopped : Parts S F L) (suspended : SuspendedContext)
      → SuspendsAll moving front before parts remains between
      → Suspends moving context between stopped suspended after
      → SuspendsAll moving (front ++ context ∷ []) before (parts ++ stopped ∷ []) (remains ++ suspended ∷ []) after
  suspends_next [] before between after parts remains context stopped suspended so_far stops = (
    stopped,
    [],
    suspended,
    [],
    after,
    subst (λ (j : JournalState). Suspends moving context j stopped suspended after) so_far.2 stops,
    (refl, refl, refl),
    ap (λ ones. ones ++ stopped ∷ []) so_far.0,
    ap (λ ones. ones ++ suspended ∷ []) so_far.1,
  )
  suspends_next (first ∷ front) before between after parts remains context stopped suspended so_far stops = (
    so_far.0,
    so_far.1 ++ stopped ∷ [],
    so_far.2,
    so_far.3 ++ suspended ∷ [],
    so_far.4,
    so_far.5,
    suspends_next front so_far.4 between after so_far.1 so_far.3 context stopped suspended so_far.6 stops,
    ap (λ ones. ones ++ stopped ∷ []) so_far.7,
    ap (λ ones. ones ++ suspended ∷ []) so_far.8,
  )
