-- Bad messages and bad events that are not lawful. Each record takes a lawful one, says what holds of it, and says that it is
-- lawful no more if that is altered (Jakarta Servlet 6.0, sections 7.5, 9.1, 11.3, 12.1, 13.6.3 and 13.8; RFC 9112, section 9).
use Rattle.std.specs.Prelude.{◌≡◌, ◌≢◌, ℕ, List, [], ◌∷◌, ◌++◌, length, map, Option, Some, slice_get}
use Rattle.sv_component.specs.Call.{Serviced}
use Rattle.sv_component.specs.Runs.{OfServlet, Record, record_entry}
use Rattle.sv_component.specs.Steps.{ComponentSteps}
use Rattle.sv_component.specs.declared.answers.Gate.{Gate}
use Rattle.sv_component.specs.declared.answers.Step.{Step}
use Rattle.sv_context.specs.Conduct.{asked_of, unnoted}
use Rattle.sv_context.specs.State.{ContextState, world_of}
use Rattle.sv_context.specs.Theory.{theory}
use Rattle.sv_exchange.specs.Keeping.{counted}
use Rattle.sv_exchange.specs.State as exchanges
use Rattle.sv_headline.specs.Events.{IsLawfulEvent}
use Rattle.sv_headline.specs.Listeners.{NotifiesInOrder}
use Rattle.sv_headline.specs.Message.{IsBecause, IsLawfulMessage, MayEnter, exchange_for, path_in, settled_for}
use Rattle.sv_headline.specs.Transitions.{ContextAnswer, Leads, Transition}
use Rattle.sv_journal.specs.declared.entry.Entry.{Entry}
use Rattle.sv_journal.specs.declared.entry.Entry.TheVariants as entries
use Rattle.sv_journal.specs.declared.refusal_cause.RefusalCause.TheVariants as causes
use Rattle.sv_listeners.specs.Telling.{told}
use Rattle.sv_login.specs.OutcomeEntry.{outcome_entry}
use Rattle.sv_login.specs.declared.outcome.Outcome.{Outcome}
use Rattle.sv_login.specs.declared.outcome.Outcome.TheVariants as outcomes
use Rattle.sv_mapping.specs.declared.kind.Kind.TheVariants as kinds
use Rattle.sv_message.specs.declared.message.Message.{Message as MessageRecord}
use Rattle.sv_message.specs.declared.response.Response.{Response}
use Rattle.sv_run.specs.Contexts.{Handling}
use Rattle.sv_run.specs.Effect.{Answered, Deed, Effect, Handled}
use Rattle.sv_run.specs.Events.{Happening, Piece, Tick, moment_after}
use Rattle.sv_run.specs.Feeding.{Feeds}
use Rattle.sv_run.specs.Items.{IsAnswerTo}
use Rattle.sv_run.specs.Messages.{Itself, destination}
use Rattle.sv_run.specs.State.{State}
use Rattle.sv_session.specs.Calls.{expiring}
use Rattle.sv_session.specs.Store.{Store}
use Rattle.sv_session.specs.declared.ended_sessions.EndedSession.{EndedSession}
use Rattle.sv_session.specs.declared.event.Event.TheVariants.{RequestInitialized}
use Rattle.sv_tree.specs.Filters.{before_of}
use Rattle.sv_tree.specs.Site.{Site, begun, chosen, name_of}
use Rattle.sv_tree.specs.SiteOfDescriptor.{site_of}
use Rattle.sv_component.specs.declared.standing.Standing.TheVariants.{Serving}
use Rattle.sv_tree.specs.State.{standing_at}
use Rattle.sv_tree.specs.declared.site.Resource.TheVariants.{Servlet}
use Rattle.sv_wire.specs.Inbox.{Held}
use Rattle.sv_wire.specs.declared.item.Item.{Item}
use Rattle.sv_wire.specs.declared.item.Item.TheVariants.{Message}
use Rattle.sv_wire.specs.declared.wire_fault.WireFault.{WireFault}

module _ {S F L : Type 0} (moving : ComponentSteps S F L) (handling : Handling (ContextState S F L)) (made : List Record) where
  abbrev pub site : Site
  site = site_of handling.context.content

  -- the exchange with which the first servlet of the request is called
  abbrev pub first_exchange : exchanges.State
  first_exchange =
      counted (begun site kinds.Request (asked_of handling.context handling.request).canon (exchange_for handling.context handling.request outcomes.Entered))

  -- the calls of a request that enters: listeners are notified of the request, and then the servlet is called with an exchange
  abbrev pub calls_with : ℕ → exchanges.State → Step → exchanges.State → List Record → List Record
  calls_with place exchange step left behind = told RequestInitialized site.listeners ++ OfServlet place (Serviced exchange 0 step left) ∷ behind

  -- the message may enter, and its path leads to a servlet that is in service and has no filters
  pub record GoesToServlet (place : ℕ) : Type 0 where
    pub may : MayEnter handling.context handling.request
    pub chosen_is : (chosen site (path_in handling.context handling.request)).resource ≡ Servlet place
    pub no_filters : site.chain (path_in handling.context handling.request) (name_of site (Servlet place)) kinds.Request ≡ []
    pub serving : standing_at handling.request.moment place handling.context.standings ≡ Serving

  -- this servlet is called first, with the exchange of the request; a handling that calls nothing is not lawful, nor is one
  -- that calls the servlet with another exchange, whatever else it does
  pub record CallsTheServlet (place : ℕ) : Type 0 where
    pub step : Step
    pub left : exchanges.State
    pub behind : List Record
    pub calls : made ≡ calls_with place first_exchange step left behind
    pub nothing_called : (entries : List Entry) → ¬ (IsLawfulMessage moving (record handling { entries = entries }) [])
    pub another_exchange : (entries : List Entry) (exchange : exchanges.State) (its_step : Step) (its_left : exchanges.State) (others : List Record)
        → exchange ≢ first_exchange
        → ¬ (IsLawfulMessage moving (record handling { entries = entries }) (calls_with place exchange its_step its_left others))

  -- the message may enter, and a filter is the first of those for its path
  pub record GoesToFilter (filter : ℕ) : Type 0 where
    pub may : MayEnter handling.context handling.request
    pub others : List ℕ
    pub chain_is : site.chain (path_in handling.context handling.request)
        (name_of site (chosen site (path_in handling.context handling.request)).resource) kinds.Request
        ≡ filter ∷ others

  -- the calls of a request that enters, of which this is the first
  abbrev pub calls_from : Record → List Record → List Record
  calls_from call behind = told RequestInitialized site.listeners ++ call ∷ behind

  -- this filter is called first, with the exchange of the request; a handling that calls nothing is not lawful, nor is one that
  -- makes any other call first: of another component, or of this filter with another exchange
  pub record CallsTheFilter (filter : ℕ) : Type 0 where
    pub gate : Gate
    pub left : exchanges.State
    pub behind : List Record
    pub calls : made ≡ calls_from (before_of filter first_exchange gate left) behind
    pub nothing_called : (entries : List Entry) → ¬ (IsLawfulMessage moving (record handling { entries = entries }) [])
    pub another_call : (entries : List Entry) (call : Record) (others : List Record)
        → ((its_gate : Gate) (its_left : exchanges.State) → call ≢ before_of filter first_exchange its_gate its_left)
        → ¬ (IsLawfulMessage moving (record handling { entries = entries }) (calls_from call others))

  -- listeners are notified of what the message and its calls did, each time in its place; with a notification more, with one fewer or
  -- elsewhere the handling is not lawful
  pub record NotifiesItsOwn : Type 0 where
    pub order : NotifiesInOrder handling made
    pub other_order : (entries : List Entry) (others : List Record) → ¬ (NotifiesInOrder handling others)
        → ¬ (IsLawfulMessage moving (record handling { entries = entries }) others)

  -- the outcome of the message is noted for its context, and then its calls; if anything else is noted for the outcome, as the same
  -- for another context, the handling is not lawful
  pub record NotesItsOutcome (cause : Outcome) : Type 0 where
    pub entry : handling.entries
        ≡ outcome_entry handling.context.content.context_path (path_in handling.context handling.request) cause
        ∷ map (record_entry (world_of handling.context unnoted)) made
    pub another_entry : (other : Entry) (behind : List Entry) (others : List Record)
        → other ≢ outcome_entry handling.context.content.context_path (path_in handling.context handling.request) cause
        → ¬ (IsLawfulMessage moving (record handling { entries = other ∷ behind }) others)

  -- a login enters its caller in its own session; with any other sessions, as with the caller in another session, the handling
  -- is not lawful
  pub record LogsInToItsOwnSession (cause : Outcome) : Type 0 where
    pub sessions : handling.after.store ≡ (settled_for handling.context handling.request cause).store
    pub other_sessions : (store : Store) (others : List Record) → store ≢ handling.after.store
        → ¬ (IsLawfulMessage moving (record handling { after = record handling.after { store = store } }) others)

module _ {S F L : Type 0} (moving : ComponentSteps S F L) (before : List (ContextState S F L)) (place : ℕ) (handling : Handling (ContextState S F L)) where
  -- a message is handled by the context that is at the place at that moment; handled by any other, as one with other
  -- constraints, other users or other sessions, it leads nowhere
  pub record IsHandledByItsContext : Type 0 where
    pub there : slice_get before place ≡ Some handling.context
    pub another_context : (other : Handling (ContextState S F L)) (others : List Record) (its_text : List ℕ) (its_after : List (ContextState S F L))
        → other.context ≢ handling.context → ¬ (Leads moving before (ContextAnswer place other others its_text) its_after)

module _ {S F L Words : Type 0} (moving : ComponentSteps S F L) (draws : Words → ℕ × ℕ → Words → Type 0)
    (before : State (ContextState S F L) Words) (effect : Effect (ContextState S F L)) where
  -- the event is lawful with no other effect of this kind
  abbrev pub IsLawfulNever : Happening → Effect (ContextState S F L) → Type 0
  IsLawfulNever happening other =
      (others : List (Transition S F L)) (its_after : State (ContextState S F L) Words)
      → ¬ (IsLawfulEvent moving draws before happening other others its_after)

  -- a session of a context with a listener has expired at the time
  pub record HasExpired (moment : ℕ) : Type 0 where
    pub place : ℕ
    pub context : ContextState S F L
    pub there : slice_get before.world.contexts place ≡ Some context
    pub session : EndedSession
    pub ends : expiring moment context.store ≡ Some session
    pub listens : length context.listeners ≢ 0

  -- an expired session is notified of; and a tick of the clock notes the ends of the expired sessions and nothing else: with more
  -- entries, with fewer or with others it is not lawful
  pub record NotifiesOfExpiries (moment : ℕ) : Type 0 where
    pub told : HasExpired (moment_after before.moment (Tick moment)) → effect.journal ≢ []
    pub other_notifications : (journal : List Entry) → journal ≢ effect.journal → IsLawfulNever (Tick moment) (record effect { journal = journal })

  -- the journal of an event begins with the ends of the sessions that have expired at its time; with any other beginning, as without
  -- them, the event is not lawful
  pub record NotifiesOfExpiriesFirst (happening : Happening) : Type 0 where
    pub told : List Entry
    pub some : HasExpired (moment_after before.moment happening) → told ≢ []
    pub behind : List Entry
    pub begins : effect.journal ≡ told ++ behind
    pub another_beginning : (journal : List Entry) → ((others : List Entry) → journal ≢ told ++ others)
        → IsLawfulNever happening (record effect { journal = journal })

  -- the deed of a message: its context handled it, or the container answered it itself, by the target
  abbrev pub IsDeedOf : MessageRecord → Deed (ContextState S F L) → Type 0
  IsDeedOf message (Handled place handling) = handling.request.message ≡ message
  IsDeedOf message (Answered entry) =
      (response : Response) × (destination (theory moving draws) before.world.contexts message.target ≡ Itself entry response)

  -- the connection holds bytes that the piece completes to this message, and perhaps to further items
  pub record BeginsWith (number : ℕ) (piece : List ℕ) (message : MessageRecord) (items : List Item) : Type 0 where
    pub held : Held
    pub holds : before.connections.held number ≡ Some held
    pub left : Held
    pub feeds : Feeds held piece (Message message ∷ items) left

  -- the first deed of the event is that of the message; without a deed, or with a refusal of the bytes as no message, the event
  -- is not lawful
  pub record AnswersTheMessage (number : ℕ) (piece : List ℕ) (moment : ℕ) (message : MessageRecord) : Type 0 where
    pub deed : Deed (ContextState S F L)
    pub others : List (Deed (ContextState S F L))
    pub deeds : effect.deeds ≡ deed ∷ others
    pub is_deed : IsDeedOf message deed
    pub swallowed : IsLawfulNever (Piece number piece moment) (record effect { deeds = [] })
    pub refused : (fault : WireFault) (others : List (Deed (ContextState S F L)))
        → IsLawfulNever (Piece number piece moment) (record effect { deeds = Answered (entries.Refused (causes.Wire fault)) ∷ others })

  -- the bytes that are sent for a message are the text of the response of its own request; with others, as with the response of
  -- another request, the event is not lawful
  pub record SendsItsResponse (number : ℕ) (piece : List ℕ) (moment : ℕ) (message : MessageRecord) (response : Response) : Type 0 where
    pub sends : IsAnswerTo message (moment_after before.moment (Piece number piece moment)) response effect.sends
    pub another_response : (sends : List ℕ) → ¬ (IsAnswerTo message (moment_after before.moment (Piece number piece moment)) response sends)
        → IsLawfulNever (Piece number piece moment) (record effect { sends = sends })

module _ {S F L : Type 0} (moving : ComponentSteps S F L) where
  abbrev pub EntriesCallTheirServlet : Type 0
  EntriesCallTheirServlet =
      (handling : Handling (ContextState S F L)) (made : List Record) (place : ℕ)
      → GoesToServlet moving handling made place → IsLawfulMessage moving handling made → CallsTheServlet moving handling made place

  abbrev pub EntriesPassTheirFirstFilter : Type 0
  EntriesPassTheirFirstFilter =
      (handling : Handling (ContextState S F L)) (made : List Record) (filter : ℕ)
      → GoesToFilter moving handling made filter → IsLawfulMessage moving handling made → CallsTheFilter moving handling made filter

  abbrev pub NotificationsAreInOrder : Type 0
  NotificationsAreInOrder =
      (handling : Handling (ContextState S F L)) (made : List Record) → IsLawfulMessage moving handling made → NotifiesItsOwn moving handling made

  abbrev pub OutcomesAreOfTheirContext : Type 0
  OutcomesAreOfTheirContext =
      (handling : Handling (ContextState S F L)) (made : List Record) (cause : Outcome)
      → IsBecause handling.context handling.request cause → IsLawfulMessage moving handling made → NotesItsOutcome moving handling made cause

  abbrev pub LoginsAreOfTheirSession : Type 0
  LoginsAreOfTheirSession =
      (handling : Handling (ContextState S F L)) (made : List Record) (number : ℕ) (target : Option (List ℕ))
      → IsBecause handling.context handling.request (outcomes.LoggedIn number target)
      → IsLawfulMessage moving handling made → LogsInToItsOwnSession moving handling made (outcomes.LoggedIn number target)

  abbrev pub MessagesAreHandledByTheirContext : Type 0
  MessagesAreHandledByTheirContext =
      (before after : List (ContextState S F L)) (place : ℕ) (handling : Handling (ContextState S F L)) (made : List Record) (text : List ℕ)
      → Leads moving before (ContextAnswer place handling made text) after → IsHandledByItsContext moving before place handling

  module _ {Words : Type 0} (draws : Words → ℕ × ℕ → Words → Type 0) where
    abbrev pub TicksNotifyOnlyOfExpiries : Type 0
    TicksNotifyOnlyOfExpiries =
        (before after : State (ContextState S F L) Words) (effect : Effect (ContextState S F L)) (transitions : List (Transition S F L)) (moment : ℕ)
        → IsLawfulEvent moving draws before (Tick moment) effect transitions after → NotifiesOfExpiries moving draws before effect moment

    abbrev pub EventsNotifyOfExpiriesFirst : Type 0
    EventsNotifyOfExpiriesFirst =
        (before after : State (ContextState S F L) Words) (happening : Happening) (effect : Effect (ContextState S F L)) (transitions : List (Transition S F L))
        → IsLawfulEvent moving draws before happening effect transitions after → NotifiesOfExpiriesFirst moving draws before effect happening

    abbrev pub MessagesAreAnswered : Type 0
    MessagesAreAnswered =
        (before after : State (ContextState S F L) Words) (effect : Effect (ContextState S F L)) (transitions : List (Transition S F L)) (number : ℕ)
        (piece : List ℕ) (moment : ℕ) (message : MessageRecord) (items : List Item)
        → BeginsWith moving draws before effect number piece message items
        → IsLawfulEvent moving draws before (Piece number piece moment) effect transitions after
        → AnswersTheMessage moving draws before effect number piece moment message

    abbrev pub ResponsesAreOfTheirRequest : Type 0
    ResponsesAreOfTheirRequest =
        (before after : State (ContextState S F L) Words) (effect : Effect (ContextState S F L)) (transitions : List (Transition S F L)) (number : ℕ)
        (piece : List ℕ) (moment : ℕ) (message : MessageRecord) (place : ℕ) (handling : Handling (ContextState S F L))
        → BeginsWith moving draws before effect number piece message [] → effect.deeds ≡ Handled place handling ∷ []
        → IsLawfulEvent moving draws before (Piece number piece moment) effect transitions after
        → SendsItsResponse moving draws before effect number piece moment message handling.response
