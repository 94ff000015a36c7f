-- What the listeners of a context are notified, from the start of its container over any run to its stop (Jakarta Servlet 6.0,
-- sections 11.3.3 and 11.3.4).
use Rattle.std.specs.Prelude.{◌≡◌, ◌==◌, ℕ, suc, Bool, true, false, not, List, [], ◌∷◌, ◌++◌, length, map, Some, Ok, Err, slice_get, if◌then◌else◌}
use Rattle.std.specs.List.{AllByRecursion, filter, flat_map}
use Rattle.std.specs.Option.{option_map_or, option_to_list}
use Rattle.sv_component.specs.Runs.{IsRun, Record, Runs}
use Rattle.sv_component.specs.Steps.{ComponentSteps}
use Rattle.sv_container.specs.Container.{state_of}
use Rattle.sv_container.specs.Starting.{Starts}
use Rattle.sv_container.specs.Stopping.{AllStopQuietly, ShutsDown}
use Rattle.sv_container.specs.declared.container.Container.{Container}
use Rattle.sv_context.specs.Conduct.{unnoted}
use Rattle.sv_context.specs.State.{ContextState, world_of}
use Rattle.sv_context.specs.Theory.{theory}
use Rattle.sv_headline.specs.Ends.{calls_of_stop}
use Rattle.sv_headline.specs.Message.{findings_in, settled_for}
use Rattle.sv_headline.specs.Record.{IsLawfulRun}
use Rattle.sv_headline.specs.Refused.{is_dispatched}
use Rattle.sv_headline.specs.Transitions.{Closing, ContextAnswer, Continuation, EditAnswer, Expiries, OwnAnswer, Refusal, Transition, calls_at}
use Rattle.sv_journal.specs.Journal.{JournalState, broken, new_journal}
use Rattle.sv_lifecycle.specs.Calls.{start_calls}
use Rattle.sv_lifecycle.specs.declared.begin.Answered.{Answered}
use Rattle.sv_lifecycle.specs.declared.deployment.Deployment.{Deployment}
use Rattle.sv_listeners.specs.Telling.{told}
use Rattle.sv_live.specs.SessionEnds.{by_number, end_events}
use Rattle.sv_live.specs.World.{world}
use Rattle.sv_live.specs.declared.live.Parts.{Parts}
use Rattle.sv_login.specs.Outcome.{outcome}
use Rattle.sv_login.specs.declared.outcome.Outcome.{Outcome}
use Rattle.sv_run.specs.Contexts.{Handling}
use Rattle.sv_run.specs.Events.{Happening, Steps}
use Rattle.sv_run.specs.Runs.{Answer, Run}
use Rattle.sv_run.specs.State.{State}
use Rattle.sv_run.specs.declared.step_fault.StepFault.TheVariants.{NoMemory, Stopped}
use Rattle.sv_session.specs.Calls.{ended}
use Rattle.sv_session.specs.declared.event.Event.{Event}
use Rattle.sv_session.specs.declared.event.Event.TheVariants.{ContextDestroyed, ContextInitialized, RequestDestroyed, RequestInitialized}
use Rattle.sv_tree.specs.Laws.{is_of_listener, left_events, told_behind}
use Rattle.sv_tree.specs.SiteOfDescriptor.{site_of}
use Rattle.sv_tree.specs.Telling.{all_told}

-- the calls of filters and servlets, and the notifications of listeners, among all calls
abbrev pub component_calls : List Record → List Record
component_calls made = filter (λ call. not (is_of_listener call)) made

abbrev pub notifications : List Record → List Record
notifications made = filter is_of_listener made

-- a request that is dispatched begins before its calls and ends after them
abbrev pub within_request : Bool → ℕ → List Record → List Record
within_request true listeners calls = told RequestInitialized listeners ++ calls ++ told RequestDestroyed listeners
within_request false listeners calls = calls

abbrev pub events_within : Bool → List Event → List Event
events_within true events = RequestInitialized ∷ events ++ RequestDestroyed ∷ []
events_within false events = events

module _ {S F L : Type 0} (handling : Handling (ContextState S F L)) (made : List Record) where
  abbrev pub outcome_in : Outcome
  outcome_in = outcome (findings_in handling.context handling.request)

  -- the event of the session that the message itself opened or renamed
  abbrev pub own_events : List Event
  own_events = option_to_list (settled_for handling.context handling.request outcome_in).event

  -- the events of a message: that one, the beginning of the request, what its calls did to the session, and the end of the
  -- request
  abbrev pub events_in : List Event
  events_in = own_events ++ events_within (is_dispatched handling.context handling.request) (flat_map left_events made)

  -- the calls of a message: listeners are notified of its session first and of its request before and after all other calls; each
  -- call of a filter or servlet is followed at once by the notifications of what it did to the session
  abbrev pub NotifiesInOrder : Type 0
  NotifiesInOrder =
      made
      ≡ all_told (length handling.context.content.app.listeners) own_events
      ++ within_request (is_dispatched handling.context handling.request) (length handling.context.content.app.listeners)
      (flat_map (told_behind (site_of handling.context.content)) (component_calls made))

module _ {S F L : Type 0} where
  -- the events of the context at a place, in their order
  abbrev pub events_at : ℕ → Transition S F L → List Event
  events_at place (Expiries moment expiries) = option_map_or (λ expiry. flat_map end_events expiry.ended) (slice_get expiries place) []
  events_at place (ContextAnswer other handling made text) = if other == place then events_in handling made else []
  events_at place Continuation = []
  events_at place (Refusal fault text) = []
  events_at place (OwnAnswer message entry response text) = []
  events_at place (EditAnswer other edit answer) = []
  events_at place Closing = []

  abbrev pub NotifiesOfMessage : Transition S F L → Type 0
  NotifiesOfMessage (ContextAnswer place handling made text) = NotifiesInOrder handling made
  NotifiesOfMessage (Expiries moment expiries) = Unit {0}
  NotifiesOfMessage Continuation = Unit {0}
  NotifiesOfMessage (Refusal fault text) = Unit {0}
  NotifiesOfMessage (OwnAnswer message entry response text) = Unit {0}
  NotifiesOfMessage (EditAnswer other edit answer) = Unit {0}
  NotifiesOfMessage Closing = Unit {0}

  -- the events of a context's whole life: its start, those of the run, the end of each session that is left, and its stop
  abbrev pub events_of_life : ℕ → List (Transition S F L) → ContextState S F L → List Event
  events_of_life place transitions last =
      ContextInitialized
      ∷ flat_map (events_at place) transitions
      ++ flat_map (λ session. end_events (ended session)) (by_number last.store.sessions)
      ++ ContextDestroyed ∷ []

  -- the calls of a context's whole life
  abbrev pub calls_of_life : Deployment S F L → List Answered → ℕ → List (Transition S F L) → ContextState S F L → List Record
  calls_of_life deployment begun place transitions last =
      start_calls deployment.descriptor begun ++ flat_map (calls_at place) transitions ++ calls_of_stop last last.store.sessions

module _ {S F L : Type 0} (moving : ComponentSteps S F L) where
  -- the context at a place is started with the deployment, lives through the transitions and stops; these are all the calls of
  -- its components; and the notifications among them are exactly those of the events of its life, each reported to every listener
  -- in the order of the specification. The calls of the start and of the stop are noted in these journals
  pub record IsNotifiedExactly (started_with stopped_with : ℕ → JournalState) (place : ℕ) (deployment : Deployment S F L) (first : ContextState S F L)
      (transitions : List (Transition S F L)) (last : ContextState S F L) (stopped : Deployment S F L) : Type 0 where
    pub begun : List Answered
    pub starts : Runs moving
        (world deployment.path deployment.parts (started_with place)) (start_calls deployment.descriptor begun) (world_of first (started_with (suc place)))
    pub lives : IsRun moving (world_of first unnoted) (flat_map (calls_at place) transitions) (world_of last unnoted)
    pub stops : Runs moving
        (world_of last (stopped_with place)) (calls_of_stop last last.store.sessions) (world stopped.path stopped.parts (stopped_with (suc place)))
    pub told : notifications (calls_of_life deployment begun place transitions last)
        ≡ all_told (length first.listeners) (events_of_life place transitions last)

  module _ {Words : Type 0} (draws : Words → ℕ × ℕ → Words → Type 0) where
    -- over every run of a started container to its stop, listeners are notified exactly of the lifecycle, of requests and of
    -- sessions, each in its place
    pub record ListenersAreNotified (deployments : List (Deployment S F L)) (noted noted_after : JournalState)
        (before after : State (ContextState S F L) Words) (transitions : List (Transition S F L)) (parts : List (Parts S F L)) (journal : JournalState)
        : Type 0 where
      pub messages : AllByRecursion NotifiesOfMessage transitions
      -- contexts start one after another, and the journal of the start notes their calls in this order
      pub started_with : ℕ → JournalState
      pub start_begins : started_with 0 ≡ noted
      pub start_ends : started_with (length deployments) ≡ noted_after
      -- so they stop, with a journal of their own
      pub back : List (Deployment S F L)
      pub parts_are : parts ≡ map (λ deployment. deployment.parts) back
      pub stopped_with : ℕ → JournalState
      pub stop_begins : stopped_with 0 ≡ new_journal
      pub stop_ends : stopped_with (length back) ≡ journal
      pub contexts : (place : ℕ) (deployment : Deployment S F L) (first : ContextState S F L)
          → slice_get deployments place ≡ Some deployment → slice_get before.world.contexts place ≡ Some first
          → (last : ContextState S F L) × (stopped : Deployment S F L)
          × (slice_get after.world.contexts place ≡ Some last) × (slice_get back place ≡ Some stopped)
          × IsNotifiedExactly started_with stopped_with place deployment first transitions last stopped

    abbrev pub ListenersHearExactly : Type 0
    ListenersHearExactly =
        (deployments : List (Deployment S F L)) (words : Words) (noted noted_after : JournalState) (container : Container S F L Words)
        (happenings : List Happening) (answers : List (Answer (ContextState S F L))) (after : State (ContextState S F L) Words)
        (parts : List (Parts S F L)) (journal : JournalState)
        → Starts moving deployments words noted (Ok container) noted_after
        → (lawful : IsLawfulRun moving draws (state_of container) happenings answers after)
        → ShutsDown moving after parts journal
        → ListenersAreNotified deployments noted noted_after (state_of container) after lawful.transitions parts journal

    -- after an event has run out of memory nothing happens but the stop, of which each listener is notified; no session is reported
    pub record StopsWithoutSessions (contexts : List (ContextState S F L)) (after : State (ContextState S F L) Words) (answers : List (Answer (ContextState S F L)))
        (parts : List (Parts S F L)) (journal : JournalState) : Type 0 where
      pub refused : AllByRecursion (λ answer. answer ≡ Err Stopped) answers
      pub stays : after.world.contexts ≡ contexts
      pub stops : AllStopQuietly moving contexts (broken new_journal) parts journal
      pub told : AllByRecursion
          (λ (context : ContextState S F L).
          notifications (calls_of_stop context []) ≡ told ContextDestroyed (length context.listeners))
          contexts

    abbrev pub NoSessionEventAfterRunningOutOfMemory : Type 0
    NoSessionEventAfterRunningOutOfMemory =
        (before between after : State (ContextState S F L) Words) (happening : Happening) (happenings : List Happening)
        (answers : List (Answer (ContextState S F L))) (parts : List (Parts S F L)) (journal : JournalState)
        → Steps (theory moving draws) before happening (Err NoMemory) between → Run (theory moving draws) between happenings answers after
        → ShutsDown moving after parts journal → StopsWithoutSessions between.world.contexts after answers parts journal
