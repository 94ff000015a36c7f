-- Listeners of started containers are notified exactly of the events of their contexts' lives.
use Rattle.std.proofs.Common.{◌≡◌, ℕ, zero, suc, true, false, cond, inl, inr, List, [], ◌∷◌, ◌++◌, map, length, reverse, Option, None, Some, Result, Ok, Err, refl, sym, ap, ◌∙◌, subst, slice_get, append-nil, append_assoc}
use Rattle.std.specs.List.{AllByRecursion, flat_map}
use Rattle.std.specs.Option.{option_map, option_map_or}
use Rattle.std.specs.Prelude.{◌==◌}
use Rattle.std.proofs.lemmas.Bool.{cond-true, cond-false}
use Rattle.std.proofs.lemmas.List.Elements.{filter-append}
use Rattle.std.proofs.lemmas.Option.{slice_get-map}
use Rattle.sv_admission.specs.Answer.{answer_to}
use Rattle.sv_component.specs.Runs.{Record, Runs}
use Rattle.sv_component.specs.Steps.{ComponentSteps}
use Rattle.sv_container.specs.Container.{state_of}
use Rattle.sv_container.specs.Stopping.{AllStopQuietly, StoppedContainersStopQuietly, contexts_to_stop, journal_to_stop}
use Rattle.sv_context.specs.Conduct.{asked_of}
use Rattle.sv_context.specs.Deployment.{content_of, declared_policy, deployed, no_sessions}
use Rattle.sv_context.specs.Handled.{state_in}
use Rattle.sv_context.specs.Several.{DeploysAll, GivesBackParts, UndeploysAll}
use Rattle.sv_context.specs.State.{ContextState, context_of, in_service, world_of}
use Rattle.sv_context.specs.Theory.{theory}
use Rattle.sv_headline.proofs.Leading.{GoesOn, after_set, some_is, through_all, through_on}
use Rattle.sv_headline.proofs.Listening.{all_heard, all_joined, answered_in_order, destroys_unheard, ends_joined, in_order_heard, inits_unheard, one_told, told_heard}
use Rattle.sv_headline.specs.Events.{AreTransitionsOf, IsAnsweredBy}
use Rattle.sv_headline.specs.Ends.{calls_of_stop}
use Rattle.sv_headline.specs.Listeners.{NotifiesOfMessage, NotifiesInOrder, ListenersHearExactly, NoSessionEventAfterRunningOutOfMemory, calls_of_life, events_at, events_in, events_of_life, notifications, outcome_in, own_events}
use Rattle.sv_headline.specs.Message.{IsDoneBy, IsLawfulMessage, exchange_for, findings_in, settled_for}
use Rattle.sv_headline.specs.Refused.{is_dispatched}
use Rattle.sv_headline.specs.Transitions.{Closing, ContextAnswer, Continuation, EditAnswer, Expiries, Expiry, IsExpiry, Leads, LeadsThrough, OwnAnswer, Refusal, Transition, calls_at, edits_at, told_of, under}
use Rattle.sv_journal.specs.Journal.{JournalState, broken, new_journal}
use Rattle.sv_lifecycle.specs.Calls.{inited, start_calls}
use Rattle.sv_lifecycle.specs.declared.begin.Answered.{Answered as Initialized}
use Rattle.sv_lifecycle.specs.Starting as starting
use Rattle.sv_lifecycle.specs.declared.deployment.Deployment.{Deployment}
use Rattle.sv_lifecycle.specs.declared.start_fault.StartFault.{StartFault}
use Rattle.sv_listeners.specs.Telling.{told}
use Rattle.sv_live.specs.Calls.{destroyed, stop_calls}
use Rattle.sv_live.specs.SessionEnds.{by_number, end_events, ends_told}
use Rattle.sv_live.specs.Standing.{LiveState}
use Rattle.sv_live.specs.World.{world}
use Rattle.sv_journal.specs.declared.calls.Place.{Place}
use Rattle.sv_login.specs.OutcomeLaws.{JustOneCaseHolds}
use Rattle.sv_login.specs.declared.outcome.Outcome.TheVariants as outcomes
use Rattle.sv_run.specs.Contexts.{Handling}
use Rattle.sv_run.specs.Events.{Happening}
use Rattle.sv_run.specs.Laws.{WantOfMemoryStops}
use Rattle.sv_run.specs.Runs.{Answer}
use Rattle.sv_run.specs.State.{State}
use Rattle.sv_session.specs.Calls.{ended}
use Rattle.sv_session.specs.Store.{Session}
use Rattle.sv_session.specs.declared.event.Event.{Event}
use Rattle.sv_session.specs.declared.event.Event.TheVariants.{ContextDestroyed, ContextInitialized}
use Rattle.sv_tree.specs.Laws.{is_of_listener}
use Rattle.sv_tree.specs.SiteOfDescriptor.{site_of}
use Rattle.sv_tree.specs.Telling.{all_told}

ok_is : {X Y : Type 0} {one other : X} → ◌≡◌ {A = Result X Y} (Ok one) (Ok other) → one ≡ other
ok_is same = cc

notified_both : (front back : List Record) → notifications (front ++ back) ≡ notifications front ++ notifications back
notified_both front back = filter-append is_of_listener front back

-- ---- messages

module _ {S F L : Type 0} (moving : ComponentSteps S F L) (one_case : JustOneCaseHolds) where
  pub done_in : (handling : Handling (ContextState S F L)) (made : List Record) → IsLawfulMessage moving handling made
      → IsDoneBy moving handling made (outcome_in handling made)
  done_in handling made (inl enters) =
      let is = (one_case (findings_in handling.context handling.request) outcomes.Entered).0
      ((enters.0.shown, enters.0.no_login), (enters.0.why, enters.0.allowed)) in
      subst (IsDoneBy moving handling made) (sym is) enters.1
  done_in handling made (inr out) =
      subst (IsDoneBy moving handling made) (sym ((one_case (findings_in handling.context handling.request) out.1.cause).0 out.1.because)) out.1.done

  pub notified_in_order : (handling : Handling (ContextState S F L)) (made : List Record) → IsLawfulMessage moving handling made → NotifiesInOrder handling made
  notified_in_order handling made lawful =
      let context = handling.context in
      let outcome = outcome_in handling made in
      let done = done_in handling made lawful in
      answered_in_order (site_of context.content) (asked_of context handling.request).canon (settled_for context handling.request outcome).event
      (answer_to context.content outcome) (state_in context (exchange_for context handling.request outcome)) (state_in handling.after done.exchange) made done.answers

  message_notified : (before after : List (ContextState S F L)) (transition : Transition S F L) → Leads moving before transition after → NotifiesOfMessage transition
  message_notified before after (Expiries moment expiries) leads = tt
  message_notified before after Continuation leads = tt
  message_notified before after (Refusal fault text) leads = tt
  message_notified before after (OwnAnswer message entry response text) leads = tt
  message_notified before after (ContextAnswer place handling made text) leads = notified_in_order handling made leads.lawful
  message_notified before after (EditAnswer place edit answer) leads = tt
  message_notified before after Closing leads = tt

  messages_notified : (before after : List (ContextState S F L)) (transitions : List (Transition S F L)) → LeadsThrough moving before transitions after
      → AllByRecursion NotifiesOfMessage transitions
  messages_notified before after [] leads = tt
  messages_notified before after (transition ∷ transitions) leads =
      (message_notified before leads.0 transition leads.1, messages_notified leads.0 after transitions leads.2)

  -- ---- the notifications of a context

  -- the context has this many listeners, and its descriptor declares as many
  abbrev Listen : ℕ → Option (ContextState S F L) → Type 0
  Listen count None = Unit {0}
  Listen count (Some context) = (length context.listeners ≡ count) × (length context.content.app.listeners ≡ count)

  abbrev Heard : ℕ → List Record → List Event → Option (ContextState S F L) → Type 0
  Heard count calls events after = (notifications calls ≡ all_told count events) × Listen count after

  expiries_heard : (moment place count : ℕ) (expiries : List (Expiry S F L)) → AllByRecursion (IsExpiry moving moment) expiries
      → Listen count (option_map (λ (expiry : Expiry S F L). expiry.context) (slice_get expiries place))
      → Heard count (option_map_or told_of (slice_get expiries place) [])
      (option_map_or (λ (expiry : Expiry S F L). flat_map end_events expiry.ended) (slice_get expiries place) [])
      (option_map (λ (expiry : Expiry S F L). expiry.after) (slice_get expiries place))
  expiries_heard moment place count [] each listen = (refl, tt)
  expiries_heard moment zero count (expiry ∷ expiries) each listen = (
    ap notifications (ends_joined (length expiry.context.listeners) end_events expiry.ended)
        ∙ all_heard (length expiry.context.listeners) (flat_map end_events expiry.ended)
        ∙ ap (λ its. all_told its (flat_map end_events expiry.ended)) listen.0,
    (each.0.stays.listeners ∙ listen.0, ap (λ content. length content.app.listeners) each.0.stays.content ∙ listen.1),
  )
  expiries_heard moment (suc place) count (expiry ∷ expiries) each listen = expiries_heard moment place count expiries each.1 listen

  stays_silent : (count : ℕ) (before after : Option (ContextState S F L)) → after ≡ before → Listen count before → Heard count [] [] after
  stays_silent count before after same listen = (refl, subst (Listen count) (sym same) listen)

  handled_heard : (at place count : ℕ) (handling : Handling (ContextState S F L)) (made : List Record) (text : List ℕ) (before after : List (ContextState S F L))
      → Leads moving before (ContextAnswer at handling made text) after → Listen count (slice_get before place)
      → Heard count (cond (at == place) made []) (cond (at == place) (events_in handling made) []) (slice_get after place)
  handled_heard at place count handling made text before after leads listen =
      elim (after_set before at place handling.context handling.after leads.there) [
        | inl here ↦
            let own : Listen count (Some handling.context) = subst (Listen count) here.3 listen in
            let done = done_in handling made leads.lawful in (
              ap notifications (cond-true (at == place) _ _ here.1)
                  ∙ in_order_heard (site_of handling.context.content) (own_events handling made) (is_dispatched handling.context handling.request) made (notified_in_order handling made leads.lawful)
                  ∙ ap (λ its. all_told its (events_in handling made)) own.1
                  ∙ ap (all_told count) (sym (cond-true (at == place) _ _ here.1)),
              subst (Listen count) (sym (ap (λ its. slice_get its place) leads.is_after ∙ here.2))
                  (done.stays.listeners ∙ own.0, ap (λ content. length content.app.listeners) done.stays.content ∙ own.1),
            )
        | inr apart ↦ (
          ap notifications (cond-false (at == place) _ _ apart.0) ∙ ap (all_told count) (sym (cond-false (at == place) _ _ apart.0)),
          subst (Listen count) (sym (ap (λ its. slice_get its place) leads.is_after ∙ apart.1)) listen,
        )
      ]

  leads_heard : (place count : ℕ) (before after : List (ContextState S F L)) (transition : Transition S F L) → Leads moving before transition after
      → Listen count (slice_get before place) → Heard count (calls_at place transition) (events_at place transition) (slice_get after place)
  leads_heard place count before after (Expiries moment expiries) leads listen =
      let contexts = ap (λ its. slice_get its place) leads.before_are ∙ slice_get-map (λ (expiry : Expiry S F L). expiry.context) expiries place in
      let afters = ap (λ its. slice_get its place) leads.after_are ∙ slice_get-map (λ (expiry : Expiry S F L). expiry.after) expiries place in
      let heard = expiries_heard moment place count expiries leads.each (subst (Listen count) contexts listen) in
      (heard.0, subst (Listen count) (sym afters) heard.1)
  leads_heard place count before after Continuation leads listen =
      stays_silent count (slice_get before place) (slice_get after place) (ap (λ its. slice_get its place) leads) listen
  leads_heard place count before after (Refusal fault text) leads listen =
      stays_silent count (slice_get before place) (slice_get after place) (ap (λ its. slice_get its place) leads) listen
  leads_heard place count before after (OwnAnswer message entry response text) leads listen =
      stays_silent count (slice_get before place) (slice_get after place) (ap (λ its. slice_get its place) leads) listen
  leads_heard place count before after (ContextAnswer at handling made text) leads listen =
      handled_heard at place count handling made text before after leads listen
  leads_heard place count before after (EditAnswer None edit answer) leads listen =
      stays_silent count (slice_get before place) (slice_get after place) (ap (λ its. slice_get its place) leads.1) listen
  leads_heard place count before after (EditAnswer (Some at) edit answer) leads listen =
      elim (after_set before at place leads.context (under leads.constraints leads.context) leads.there) [
        | inl here ↦ (
          refl,
          subst (Listen count) (sym (ap (λ its. slice_get its place) leads.is_after ∙ here.2)) (subst (Listen count) here.3 listen),
        )
        | inr apart ↦ (refl, subst (Listen count) (sym (ap (λ its. slice_get its place) leads.is_after ∙ apart.1)) listen)
      ]
  leads_heard place count before after Closing leads listen =
      stays_silent count (slice_get before place) (slice_get after place) (ap (λ its. slice_get its place) leads) listen

  through_heard : (place count : ℕ) (before after : List (ContextState S F L)) (transitions : List (Transition S F L))
      → LeadsThrough moving before transitions after → Listen count (slice_get before place)
      → Heard count (flat_map (calls_at place) transitions) (flat_map (events_at place) transitions) (slice_get after place)
  through_heard place count before after [] leads listen =
      stays_silent count (slice_get before place) (slice_get after place) (ap (λ its. slice_get its place) leads) listen
  through_heard place count before after (transition ∷ transitions) leads listen =
      let first = leads_heard place count before leads.0 transition leads.1 listen in
      let rest = through_heard place count leads.0 after transitions leads.2 first.1 in (
        notified_both (calls_at place transition) (flat_map (calls_at place) transitions)
            ∙ (λ i. first.0 i ++ rest.0 i)
            ∙ sym (all_joined count (events_at place transition) (flat_map (events_at place) transitions)),
        rest.1,
      )

  -- ---- the start and the stop of a context

  record Started (deployment : Deployment S F L) (noted : JournalState) (first : ContextState S F L) (noted_first : JournalState) : Type 0 where
    pub begun : List Initialized
    pub starts : Runs moving (world deployment.path deployment.parts noted) (start_calls deployment.descriptor begun) (world_of first noted_first)
    pub app : first.content.app ≡ deployment.descriptor
    pub listeners : length first.listeners ≡ length deployment.descriptor.listeners

  abbrev made_of : Deployment S F L → LiveState S F L → ContextState S F L
  made_of deployment live =
      context_of (content_of deployment) (declared_policy deployment.descriptor) deployment.users live (no_sessions deployment.descriptor)

  by_outcome : (deployment : Deployment S F L) (live : LiveState S F L) (noted noted_first : JournalState) (outcome : starting.Outcome)
      → Runs moving (world deployment.path deployment.parts noted) (starting.calls_of deployment.descriptor outcome) (world deployment.path live.parts noted_first)
      → starting.IsResultOf deployment.path deployment.descriptor deployment.parts outcome (Ok live) noted_first
      → Started deployment noted (made_of deployment live) noted_first
  by_outcome deployment live noted noted_first (starting.Started inits) runs is =
      record { begun = inits.begun; starts = runs; app = refl; listeners = is.1.listeners }
  by_outcome deployment live noted noted_first (starting.Undone inits) runs is = absurd is
  by_outcome deployment live noted noted_first starting.Untouched runs is = absurd is

  by_result : (deployment : Deployment S F L) (started : Result (LiveState S F L) (StartFault S F L)) (first : ContextState S F L) (noted noted_first : JournalState)
      → starting.Starts moving deployment.path deployment.descriptor deployment.parts noted started noted_first → Ok first ≡ deployed deployment started
      → Started deployment noted first noted_first
  by_result deployment (Ok live) first noted noted_first starts is =
      subst (λ its. Started deployment noted its noted_first) (sym (ok_is is)) (by_outcome deployment live noted noted_first starts.outcome starts.made starts.is)
  by_result deployment (Err fault) first noted noted_first starts is = absurd (cc)

  -- the journal before the start of the context at a place
  abbrev start_journal : (deployments : List (Deployment S F L)) (contexts : List (ContextState S F L)) (noted noted_after : JournalState)
      → DeploysAll moving deployments noted contexts noted_after → ℕ → JournalState
  start_journal [] contexts noted noted_after deploys place = noted
  start_journal (one ∷ deployments) contexts noted noted_after deploys zero = noted
  start_journal (one ∷ deployments) contexts noted noted_after deploys (suc place) =
      start_journal deployments deploys.1 deploys.2 noted_after deploys.4 place

  start_first : (deployments : List (Deployment S F L)) (contexts : List (ContextState S F L)) (noted noted_after : JournalState)
      (deploys : DeploysAll moving deployments noted contexts noted_after) → start_journal deployments contexts noted noted_after deploys 0 ≡ noted
  start_first [] contexts noted noted_after deploys = refl
  start_first (one ∷ deployments) contexts noted noted_after deploys = refl

  start_last : (deployments : List (Deployment S F L)) (contexts : List (ContextState S F L)) (noted noted_after : JournalState)
      (deploys : DeploysAll moving deployments noted contexts noted_after)
      → start_journal deployments contexts noted noted_after deploys (length deployments) ≡ noted_after
  start_last [] contexts noted noted_after deploys = sym deploys.1
  start_last (one ∷ deployments) contexts noted noted_after deploys = start_last deployments deploys.1 deploys.2 noted_after deploys.4

  started_at : (deployments : List (Deployment S F L)) (contexts : List (ContextState S F L)) (noted noted_after : JournalState)
      (deploys : DeploysAll moving deployments noted contexts noted_after) (place : ℕ) (deployment : Deployment S F L) (first : ContextState S F L)
      → slice_get deployments place ≡ Some deployment → slice_get contexts place ≡ Some first
      → Started deployment (start_journal deployments contexts noted noted_after deploys place) first
      (start_journal deployments contexts noted noted_after deploys (suc place))
  started_at [] contexts noted noted_after deploys place deployment first there is = absurd (cc)
  started_at (one ∷ deployments) contexts noted noted_after deploys zero deployment first there is =
      let same : deploys.0 ≡ first = some_is (sym (ap (λ its. slice_get its 0) deploys.5) ∙ is) in
      subst (Started deployment noted first) (sym (start_first deployments deploys.1 deploys.2 noted_after deploys.4))
      (subst (λ its. Started its noted first deploys.2) (some_is there)
      (subst (λ its. Started one noted its deploys.2) same (by_result one deploys.3.started deploys.0 noted deploys.2 deploys.3.starts deploys.3.is)))
  started_at (one ∷ deployments) contexts noted noted_after deploys (suc place) deployment first there is =
      started_at deployments deploys.1 deploys.2 noted_after deploys.4 place deployment first there
      (sym (ap (λ its. slice_get its (suc place)) deploys.5) ∙ is)

  -- the journal before the stop of the context at a place
  abbrev stop_journal : (contexts : List (ContextState S F L)) (back : List (Deployment S F L)) (noted noted_after : JournalState)
      → UndeploysAll moving contexts noted back noted_after → ℕ → JournalState
  stop_journal [] back noted noted_after undeploys place = noted
  stop_journal (context ∷ contexts) back noted noted_after undeploys zero = noted
  stop_journal (context ∷ contexts) back noted noted_after undeploys (suc place) =
      stop_journal contexts undeploys.1 undeploys.2 noted_after undeploys.4 place

  stop_first : (contexts : List (ContextState S F L)) (back : List (Deployment S F L)) (noted noted_after : JournalState)
      (undeploys : UndeploysAll moving contexts noted back noted_after) → stop_journal contexts back noted noted_after undeploys 0 ≡ noted
  stop_first [] back noted noted_after undeploys = refl
  stop_first (context ∷ contexts) back noted noted_after undeploys = refl

  stop_last : (contexts : List (ContextState S F L)) (back : List (Deployment S F L)) (noted noted_after : JournalState)
      (undeploys : UndeploysAll moving contexts noted back noted_after)
      → stop_journal contexts back noted noted_after undeploys (length back) ≡ noted_after
  stop_last [] back noted noted_after undeploys = sym undeploys.1
  stop_last (context ∷ contexts) back noted noted_after undeploys =
      ap (λ (its : List (Deployment S F L)). stop_journal (context ∷ contexts) back noted noted_after undeploys (length its)) undeploys.5
      ∙ stop_last contexts undeploys.1 undeploys.2 noted_after undeploys.4

  record Undeployed (noted : JournalState) (last : ContextState S F L) (back : List (Deployment S F L)) (place : ℕ) (noted_stop : JournalState) : Type 0 where
    pub stopped : Deployment S F L
    pub there : slice_get back place ≡ Some stopped
    pub stops : Runs moving (world_of last noted) (calls_of_stop last last.store.sessions) (world stopped.path stopped.parts noted_stop)

  undeployed_at : (contexts : List (ContextState S F L)) (back : List (Deployment S F L)) (noted noted_after : JournalState)
      (undeploys : UndeploysAll moving contexts noted back noted_after) (place : ℕ) (last : ContextState S F L) → slice_get contexts place ≡ Some last
      → Undeployed (stop_journal contexts back noted noted_after undeploys place) last back place
      (stop_journal contexts back noted noted_after undeploys (suc place))
  undeployed_at [] back noted noted_after undeploys place last is = absurd (cc)
  undeployed_at (context ∷ contexts) back noted noted_after undeploys zero last is =
      subst (Undeployed noted last back 0) (sym (stop_first contexts undeploys.1 undeploys.2 noted_after undeploys.4))
      (subst (λ its. Undeployed noted its back 0 undeploys.2) (some_is is) record {
        stopped = undeploys.0;
        there = ap (λ its. slice_get its 0) undeploys.5;
        stops = undeploys.3.stops;
      })
  undeployed_at (context ∷ contexts) back noted noted_after undeploys (suc place) last is =
      let rest = undeployed_at contexts undeploys.1 undeploys.2 noted_after undeploys.4 place last is in
      record {
        stopped = rest.stopped;
        there = ap (λ its. slice_get its (suc place)) undeploys.5 ∙ rest.there;
        stops = rest.stops;
      }

  joined_so : (a x y d : List Record) → (a ++ x) ++ (y ++ d) ≡ a ++ ((x ++ y) ++ d)
  joined_so a x y d = append_assoc a x (y ++ d) ∙ ap (λ rest. a ++ rest) (sym (append_assoc x y d))

  start_heard : (deployment : Deployment S F L) (begun : List Initialized)
      → notifications (start_calls deployment.descriptor begun) ≡ told ContextInitialized (length deployment.descriptor.listeners)
  start_heard deployment begun =
      notified_both (told ContextInitialized (length deployment.descriptor.listeners)) (map (inited deployment.descriptor) begun)
      ∙ (λ i. told_heard ContextInitialized (length deployment.descriptor.listeners) i ++ inits_unheard deployment.descriptor begun i)
      ∙ append-nil (told ContextInitialized (length deployment.descriptor.listeners))

  pub stop_heard : (count : ℕ) (places : List Place) (sessions : List Session)
      → notifications (stop_calls count places sessions)
      ≡ all_told count (flat_map (λ session. end_events (ended session)) (by_number sessions)) ++ told ContextDestroyed count
  stop_heard count places sessions =
      let events = flat_map (λ session. end_events (ended session)) (by_number sessions) in
      notified_both (map destroyed (reverse places)) (ends_told sessions count ++ told ContextDestroyed count)
      ∙ ap (λ none. none ++ notifications (ends_told sessions count ++ told ContextDestroyed count)) (destroys_unheard (reverse places))
      ∙ notified_both (ends_told sessions count) (told ContextDestroyed count)
      ∙ (λ i. (ap notifications (ends_joined count (λ session. end_events (ended session)) (by_number sessions)) ∙ all_heard count events) i
      ++ told_heard ContextDestroyed count i)

  life_heard : (place : ℕ) (deployment : Deployment S F L) (first : ContextState S F L) (noted noted_first : JournalState)
      (started : Started deployment noted first noted_first) (transitions : List (Transition S F L)) (last : ContextState S F L) (count : ℕ) → length first.listeners ≡ count
      → Heard count (flat_map (calls_at place) transitions) (flat_map (events_at place) transitions) (Some last)
      → notifications (calls_of_life deployment started.begun place transitions last) ≡ all_told count (events_of_life place transitions last)
  life_heard place deployment first noted noted_first started transitions last count is heard =
      let begins = start_calls deployment.descriptor started.begun in
      let goes = flat_map (calls_at place) transitions in
      let own = flat_map (events_at place) transitions in
      let ends = flat_map (λ session. end_events (ended session)) (by_number last.store.sessions) in
      notified_both (begins ++ goes) (calls_of_stop last last.store.sessions)
      ∙ ap (λ front. front ++ notifications (calls_of_stop last last.store.sessions)) (notified_both begins goes)
      ∙ (λ i. ((start_heard deployment started.begun ∙ ap (told ContextInitialized) (sym started.listeners ∙ is)) i ++ heard.0 i)
      ++ (stop_heard (length last.listeners) (in_service last) last.store.sessions
      ∙ ap (λ its. all_told its ends ++ told ContextDestroyed its) heard.1.0) i)
      ∙ joined_so (told ContextInitialized count) (all_told count own) (all_told count ends) (told ContextDestroyed count)
      ∙ ap (λ rest. told ContextInitialized count ++ rest)
      ((λ i. (sym (all_joined count own ends)) i ++ (sym (one_told count ContextDestroyed)) i) ∙ sym (all_joined count (own ++ ends) (ContextDestroyed ∷ [])))

  module _ {Words : Type 0} (draws : Words → ℕ × ℕ → Words → Type 0) where
    abbrev Whole : Type 0
    Whole = State (ContextState S F L) Words

    answered_through : (before after : Whole) (happening : Happening) (answer : Answer (ContextState S F L)) (transitions : List (Transition S F L))
        → IsAnsweredBy moving draws before happening answer transitions after
        → LeadsThrough moving before.world.contexts transitions after.world.contexts × (after.stopped ≡ false)
    answered_through before after happening (Ok effect) transitions is = (is.leads, is.goes_on)
    answered_through before after happening (Err fault) transitions is = (
      subst (λ its. LeadsThrough moving before.world.contexts its after.world.contexts) (sym is.none) (ap (λ (state : Whole). state.world.contexts) is.stays),
      ap (λ (state : Whole). state.stopped) is.stays ∙ is.runs,
    )

    pub events_through : (before after : Whole) (happenings : List Happening) (answers : List (Answer (ContextState S F L))) (transitions : List (Transition S F L))
        → AreTransitionsOf moving draws before happenings answers transitions after → before.stopped ≡ false
        → LeadsThrough moving before.world.contexts transitions after.world.contexts × (after.stopped ≡ false)
    events_through before after [] [] transitions are runs = (
      subst (λ its. LeadsThrough moving before.world.contexts its after.world.contexts) (sym are.0) (ap (λ (state : Whole). state.world.contexts) are.1),
      ap (λ (state : Whole). state.stopped) are.1 ∙ runs,
    )
    events_through before after [] (answer ∷ answers) transitions are runs = absurd are
    events_through before after (happening ∷ happenings) [] transitions are runs = absurd are
    events_through before after (happening ∷ happenings) (answer ∷ answers) transitions are runs =
        let first = answered_through before are.2 happening answer are.0 are.3 in
        let rest = events_through are.2 after happenings answers are.1 are.4 first.1 in (
          subst (λ its. LeadsThrough moving before.world.contexts its after.world.contexts) (sym are.5)
              (through_all moving before.world.contexts are.2.world.contexts after.world.contexts are.0 are.1 first.0 rest.0),
          rest.1,
        )

    pub listeners_hear_exactly : ListenersHearExactly moving draws
    listeners_hear_exactly deployments words noted noted_after container happenings answers after parts journal starts lawful shuts =
        let before = state_of container in
        let goes = events_through before after happenings answers lawful.transitions lawful.are (ap (λ (state : Whole). state.stopped) starts.3) in
        let gives : GivesBackParts moving after.world.contexts new_journal parts journal =
        subst (λ stopped. GivesBackParts moving (contexts_to_stop stopped after.world.contexts) (journal_to_stop stopped) parts journal) goes.1 shuts in
        let journals = start_journal deployments starts.0 noted noted_after starts.1 in
        record {
          messages = messages_notified before.world.contexts after.world.contexts lawful.transitions goes.0;
          started_with = journals;
          start_begins = start_first deployments starts.0 noted noted_after starts.1;
          start_ends = start_last deployments starts.0 noted noted_after starts.1;
          back = gives.back;
          parts_are = gives.are;
          stopped_with = stop_journal after.world.contexts gives.back new_journal journal gives.undeploys;
          stop_begins = stop_first after.world.contexts gives.back new_journal journal gives.undeploys;
          stop_ends = stop_last after.world.contexts gives.back new_journal journal gives.undeploys;
          contexts = λ place deployment first there is.
              let started = started_at deployments starts.0 noted noted_after starts.1 place deployment first there
              (sym (ap (λ (state : Whole). slice_get state.world.contexts place) starts.3) ∙ is) in
              let through = subst (λ its. GoesOn moving its (flat_map (calls_at place) lawful.transitions) (flat_map (edits_at place) lawful.transitions)
              (slice_get after.world.contexts place)) is (through_on moving place before.world.contexts after.world.contexts lawful.transitions goes.0) in
              let listen : Listen (length first.listeners) (Some first) =
              (refl, ap (λ app. length app.listeners) started.app ∙ sym started.listeners) in
              let heard = through_heard place (length first.listeners) before.world.contexts after.world.contexts lawful.transitions goes.0
              (subst (Listen (length first.listeners)) (sym is) listen) in
              let stops = undeployed_at after.world.contexts gives.back new_journal journal gives.undeploys place through.0 through.1 in (
                through.0,
                stops.stopped,
                through.1,
                stops.there,
                record {
                  begun = started.begun;
                  starts = started.starts;
                  lives = through.2;
                  stops = stops.stops;
                  told =
                      life_heard place deployment first (journals place) (journals (suc place)) started lawful.transitions through.0 (length first.listeners)
                      refl (heard.0, subst (Listen (length first.listeners)) through.1 heard.1);
                },
              );
        }

    -- ---- after memory has run out

    silent_stops : (contexts : List (ContextState S F L))
        → AllByRecursion
        (λ (context : ContextState S F L).
        notifications (stop_calls (length context.listeners) (in_service context) []) ≡ told ContextDestroyed (length context.listeners))
        contexts
    silent_stops [] = tt
    silent_stops (context ∷ contexts) = (stop_heard (length context.listeners) (in_service context) [], silent_stops contexts)

    pub no_session_event : WantOfMemoryStops (theory moving draws) → StoppedContainersStopQuietly moving Words → NoSessionEventAfterRunningOutOfMemory moving draws
    no_session_event stops quietly before between after happening happenings answers parts journal breaks run shuts =
        let rest = stops before between after happening happenings answers breaks run in
        let stopped : after.stopped ≡ true = ap (λ (state : Whole). state.stopped) rest.1 ∙ breaks.stops in
        let same = ap (λ (state : Whole). state.world.contexts) rest.1 in
        record {
          refused = rest.0;
          stays = same;
          stops = subst (λ contexts. AllStopQuietly moving contexts (broken new_journal) parts journal) same (quietly after parts journal stopped shuts);
          told = silent_stops between.world.contexts;
        }
