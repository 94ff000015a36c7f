-- Contexts from the start of their container to its stop.
use Rattle.std.proofs.Common.{◌≡◌, Bool, true, false, List, [], ◌∷◌, ◌++◌, length, map, Result, Ok, Err, sym, ap, subst}
use Rattle.std.specs.List.{AllByRecursion, filter}
use Rattle.sv_component.proofs.Running.{runs_grown}
use Rattle.sv_component.specs.Runs.{IsRun, Runs}
use Rattle.sv_component.specs.Steps.{ComponentSteps}
use Rattle.sv_container.specs.Container.{state_of}
use Rattle.sv_context.specs.Several.{DeploysAll, UndeploysAll}
use Rattle.sv_container.specs.Stopping.{contexts_to_stop, journal_to_stop}
use Rattle.sv_context.proofs.Journals.{runs_unnoted}
use Rattle.sv_context.specs.Conduct.{unnoted}
use Rattle.sv_context.specs.Deployment.{content_of, deployed}
use Rattle.sv_context.specs.Forgetting.{without_sessions}
use Rattle.sv_context.specs.State.{ContextState, world_of}
use Rattle.sv_context.specs.declared.deploy_fault.DeployFault.{DeployFault}
use Rattle.sv_lifecycle.specs.declared.deployment.Deployment.{Deployment}
use Rattle.sv_journal.specs.Journal.{JournalState}
use Rattle.sv_live.specs.Calls.{stop_calls}
use Rattle.sv_live.specs.Standing.{LiveState, is_in_service}
use Rattle.sv_lifecycle.specs.Starting.{IsResultOf, Outcome, Started, Undone, Untouched}
use Rattle.sv_live.specs.World.{world}
use Rattle.sv_journal.specs.declared.calls.Place.{Place}
use Rattle.sv_journal.specs.declared.calls.Place.TheVariants.{Filter, Servlet}
use Rattle.sv_live.specs.declared.live.Parts.{Parts}
use Rattle.sv_lifecycle.specs.declared.start_fault.StartFault.{StartFault}
use Rattle.sv_headline.specs.Ends.{AllLiveToTheirStops, EachIsDestroyedOnce, EndsOnce, HasComponent, LivesToItsStop, calls_of_stop, component_calls, was_initialised}
use Rattle.sv_headline.specs.Lives.{AllLive, Lives}
use Rattle.sv_headline.proofs.Beginning.{AreStarted, are_started}
use Rattle.sv_headline.proofs.Ending.{filter_ends, servlet_ends}
use Rattle.sv_headline.proofs.Living.{components_are_destroyed_once}
use Rattle.sv_run.specs.State.{State}
use Rattle.sv_session.specs.Store.{Session}
use Rattle.sv_tree.specs.SiteOfDescriptor.{Content}

-- the state of a context just after its start
abbrev IsStarted : {S F L : Type 0} → ContextState S F L → Type 0
IsStarted context = AreStarted context.initialised context.standings (length context.servlets) (length context.filters)

abbrev IsStartedIn : {S F L : Type 0} → Result (ContextState S F L) (DeployFault S F L) → Type 0
IsStartedIn (Ok context) = IsStarted context
IsStartedIn (Err fault) = Unit {0}

module _ {S F L : Type 0} (moving : ComponentSteps S F L) where
  -- ---- each context of a started container
  deployed_started : (deployment : Deployment S F L) (started : Result (LiveState S F L) (StartFault S F L)) (outcome : Outcome) (after : JournalState)
      → IsResultOf deployment.path deployment.descriptor deployment.parts outcome started after → IsStartedIn (deployed deployment started)
  deployed_started deployment (Ok live) (Started inits) after is = are_started deployment.path deployment.descriptor inits live after is.1
  deployed_started deployment (Ok live) (Undone inits) after is = absurd is
  deployed_started deployment (Ok live) Untouched after is = absurd is
  deployed_started deployment (Err fault) outcome after is = tt

  all_started : (deployments : List (Deployment S F L)) (before after : JournalState) (contexts : List (ContextState S F L))
      → DeploysAll moving deployments before contexts after → AllByRecursion IsStarted contexts
  all_started [] before after contexts deploys = subst (AllByRecursion IsStarted) (sym deploys.0) tt
  all_started (deployment ∷ deployments) before after contexts deploys =
      let its = deploys.3 in
      subst (AllByRecursion IsStarted) (sym deploys.5) (
        subst IsStartedIn (sym its.is) (deployed_started deployment its.started its.starts.outcome deploys.2 its.starts.is),
        all_started deployments deploys.2 after deploys.1 deploys.4,
      )

  -- ---- each context stops
  -- the calls of the stop move its components, whatever the journal notes
  abbrev Stops : ContextState S F L → Parts S F L → Type 0
  Stops context parts =
      (sessions : List Session)
      × IsRun moving (world_of context unnoted) (calls_of_stop context sessions) (world context.content.context_path parts unnoted)

  one_stops : (context : ContextState S F L) (sessions : List Session) (before after : JournalState) (back : Deployment S F L)
      → Runs moving (world_of context before) (calls_of_stop context sessions) (world back.path back.parts after)
      → content_of back ≡ context.content → Stops context back.parts
  one_stops context sessions before after back grows content = (
    sessions,
    subst (λ path. IsRun moving (world_of context unnoted) (calls_of_stop context sessions) (world path back.parts unnoted))
        (ap (λ (its : Content). its.context_path) content)
        (runs_unnoted moving (world_of context before) (calls_of_stop context sessions) (world back.path back.parts after)
        (runs_grown moving (world_of context before) (world back.path back.parts after) (calls_of_stop context sessions) grows)),
  )

  abbrev AllStop : List (ContextState S F L) → List (Parts S F L) → Type 0
  AllStop [] parts = parts ≡ []
  AllStop (context ∷ contexts) parts =
      (its : Parts S F L) × (others : List (Parts S F L)) × Stops context its × AllStop contexts others × (parts ≡ its ∷ others)

  all_stop : (stopped : Bool) (contexts : List (ContextState S F L)) (before after : JournalState) (back : List (Deployment S F L))
      → UndeploysAll moving (contexts_to_stop stopped contexts) before back after → AllStop contexts (map (λ deployment. deployment.parts) back)
  all_stop true [] before after back undeploys = ap (map (λ deployment. deployment.parts)) undeploys.0
  all_stop false [] before after back undeploys = ap (map (λ deployment. deployment.parts)) undeploys.0
  all_stop true (context ∷ contexts) before after back undeploys = (
    undeploys.0.parts,
    map (λ deployment. deployment.parts) undeploys.1,
    one_stops context (without_sessions context).store.sessions before undeploys.2 undeploys.0 undeploys.3.stops undeploys.3.content,
    all_stop true contexts undeploys.2 after undeploys.1 undeploys.4,
    ap (map (λ deployment. deployment.parts)) undeploys.5,
  )
  all_stop false (context ∷ contexts) before after back undeploys = (
    undeploys.0.parts,
    map (λ deployment. deployment.parts) undeploys.1,
    one_stops context context.store.sessions before undeploys.2 undeploys.0 undeploys.3.stops undeploys.3.content,
    all_stop false contexts undeploys.2 after undeploys.1 undeploys.4,
    ap (map (λ deployment. deployment.parts)) undeploys.5,
  )

  -- ---- each context lives to its stop
  one_ends : (first last : ContextState S F L) (sessions : List Session) → IsStarted first → (lives : Lives moving first last) → (place : Place)
      → HasComponent first place → EndsOnce (was_initialised first place) (component_calls place (lives.made ++ calls_of_stop last sessions))
  one_ends first last sessions started lives (Servlet place) there =
      subst (λ places. EndsOnce (was_initialised first (Servlet place))
      (component_calls (Servlet place) (lives.made ++ stop_calls (length last.listeners) (filter (is_in_service last.standings) places) sessions)))
      (sym lives.initialised)
      (servlet_ends place first.standings last.standings first.initialised lives.made (length last.listeners) sessions (started.once (Servlet place))
      (started.servlets place there) lives.retires)
  one_ends first last sessions started lives (Filter place) there =
      subst (λ places. EndsOnce (was_initialised first (Filter place))
      (component_calls (Filter place) (lives.made ++ stop_calls (length last.listeners) (filter (is_in_service last.standings) places) sessions)))
      (sym lives.initialised)
      (filter_ends place first.standings last.standings first.initialised lives.made (length last.listeners) sessions (started.once (Filter place))
      (started.filters place there) lives.retires)

  one_lives : (first last : ContextState S F L) (parts : Parts S F L) → IsStarted first → Lives moving first last → Stops last parts
      → LivesToItsStop moving first last parts
  one_lives first last parts started its_life stops = record {
    lives = its_life;
    sessions = stops.0;
    stops = stops.1;
    ends = one_ends first last stops.0 started its_life;
  }

  all_live : (first last : List (ContextState S F L)) (parts : List (Parts S F L)) → AllByRecursion IsStarted first → AllLive moving first last
      → AllStop last parts → AllLiveToTheirStops moving first last parts
  all_live [] last parts started lives stops = (lives, subst (λ contexts. AllStop contexts parts) lives stops)
  all_live (context ∷ contexts) last parts started lives stops =
      let its = subst (λ those. AllStop those parts) lives.4 stops in (
        lives.0,
        its.0,
        lives.1,
        its.1,
        one_lives context lives.0 its.0 started.0 lives.2 its.2,
        all_live contexts lives.1 its.1 started.1 lives.3 its.3,
        lives.4,
        its.4,
      )

  pub each_is_destroyed_once : (Words : Type 0) → EachIsDestroyedOnce moving Words
  each_is_destroyed_once Words deployments words noted noted_after started stopping events parts journal starts alters shuts =
      let contexts = (state_of started).world.contexts in
      all_live contexts (state_of stopping).world.contexts parts
      (subst (AllByRecursion IsStarted) (sym (ap (λ (state : State (ContextState S F L) Words). state.world.contexts) starts.3))
      (all_started deployments noted noted_after starts.0 starts.1))
      (components_are_destroyed_once moving events contexts (state_of stopping).world.contexts alters)
      (subst (AllStop (state_of stopping).world.contexts) (sym shuts.are)
      (all_stop (state_of stopping).stopped (state_of stopping).world.contexts (journal_to_stop (state_of stopping).stopped) journal shuts.back shuts.undeploys))
