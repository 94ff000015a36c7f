-- Bad runs that are not lawful. Each record takes a lawful run over any events, says what holds of one of its messages or events,
-- and says that no lawful run has it altered (Jakarta Servlet 6.0, sections 6.2, 7.5, 9.1, 11.3, 12.1, 13.6.3 and 13.8; RFC 9112,
-- section 9).
use Rattle.std.specs.Prelude.{◌≡◌, ◌≢◌, ◌↔◌, ℕ, List, [], ◌∷◌, ◌++◌, length, Option, Some, Ok, slice_get}
use Rattle.sv_component.specs.Runs.{Record}
use Rattle.sv_component.specs.Steps.{ComponentSteps}
use Rattle.sv_component.specs.declared.answers.Gate.{Gate}
use Rattle.sv_component.specs.declared.answers.Step.{Step}
use Rattle.sv_context.specs.State.{ContextState}
use Rattle.sv_exchange.specs.State as exchanges
use Rattle.sv_headline.specs.AnswersInOrder.{AreAnswersTo, CompletesAll}
use Rattle.sv_headline.specs.Events.{IsLawfulEvent}
use Rattle.sv_headline.specs.Listeners.{NotifiesInOrder}
use Rattle.sv_headline.specs.Message.{IsBecause, IsLawfulMessage, path_in}
use Rattle.sv_headline.specs.Record.{IsLawfulRun}
use Rattle.sv_headline.specs.Transitions.{ContextAnswer, LeadsThrough, Transition}
use Rattle.sv_headline.specs.Unlawful.{BeginsWith, GoesToFilter, GoesToServlet, NotifiesOfExpiriesFirst, calls_from, calls_with, first_exchange}
use Rattle.sv_journal.specs.declared.entry.Entry.{Entry}
use Rattle.sv_journal.specs.declared.entry.Entry.TheVariants as entries
use Rattle.sv_journal.specs.declared.refusal_cause.RefusalCause.TheVariants as causes
use Rattle.sv_login.specs.OutcomeEntry.{outcome_entry}
use Rattle.sv_login.specs.declared.outcome.Outcome.{Outcome}
use Rattle.sv_login.specs.declared.outcome.Outcome.TheVariants as outcomes
use Rattle.sv_message.specs.declared.message.Message.{Message as MessageRecord}
use Rattle.sv_run.specs.Contexts.{Handling}
use Rattle.sv_run.specs.Effect.{Answered, Deed, Effect, Handled}
use Rattle.sv_run.specs.Events.{Happening, Piece, Tick, moment_after}
use Rattle.sv_run.specs.Items.{IsAnswerTo}
use Rattle.sv_run.specs.Runs.{Answer}
use Rattle.sv_run.specs.State.{State}
use Rattle.sv_session.specs.Store.{Store}
use Rattle.sv_tree.specs.Filters.{before_of}
use Rattle.sv_wire.specs.declared.item.Item.{Item}
use Rattle.sv_wire.specs.declared.wire_fault.WireFault.{WireFault}

module _ {S F L Words : Type 0} (moving : ComponentSteps S F L) (draws : Words → ℕ × ℕ → Words → Type 0) where
  -- no lawful run has this message, handled so and by these calls
  abbrev pub IsInNoRun : Handling (ContextState S F L) → List Record → Type 0
  IsInNoRun handling made =
      (before after : State (ContextState S F L) Words) (happenings : List Happening) (answers : List (Answer (ContextState S F L)))
      (lawful : IsLawfulRun moving draws before happenings answers after) (earlier later : List (Transition S F L)) (place : ℕ) (text : List ℕ)
      → ¬ (lawful.transitions ≡ earlier ++ ContextAnswer place handling made text ∷ later)

  -- no lawful run from these contexts has, after these transitions, a message that the context at the place handles so
  abbrev pub FollowsInNoRun : List (ContextState S F L) → List (Transition S F L) → ℕ → Handling (ContextState S F L) → Type 0
  FollowsInNoRun contexts earlier place handling =
      (before after : State (ContextState S F L) Words) (happenings : List Happening) (answers : List (Answer (ContextState S F L)))
      (lawful : IsLawfulRun moving draws before happenings answers after) (made : List Record) (text : List ℕ) (later : List (Transition S F L))
      → before.world.contexts ≡ contexts → ¬ (lawful.transitions ≡ earlier ++ ContextAnswer place handling made text ∷ later)

  -- a message of a lawful run is handled by the context to which the earlier transitions have led, and it is lawful; no lawful run
  -- has it with one thing altered
  pub record IsMessageOfRun (contexts : List (ContextState S F L)) (earlier : List (Transition S F L)) (place : ℕ) (handling : Handling (ContextState S F L))
      (made : List Record) : Type 0 where
    pub at : List (ContextState S F L)
    pub reached : LeadsThrough moving contexts earlier at
    pub there : slice_get at place ≡ Some handling.context
    pub lawful : IsLawfulMessage moving handling made
    -- it goes to a servlet: nothing is called, or the servlet with another exchange
    pub no_servlet_called : (servlet : ℕ) (entries : List Entry) → GoesToServlet moving handling made servlet
        → IsInNoRun (record handling { entries = entries }) []
    pub another_exchange : (servlet : ℕ) (entries : List Entry) (exchange : exchanges.State) (step : Step) (left : exchanges.State) (others : List Record)
        → GoesToServlet moving handling made servlet → exchange ≢ first_exchange moving handling made
        → IsInNoRun (record handling { entries = entries }) (calls_with moving handling made servlet exchange step left others)
    -- it goes to a filter: nothing is called, or something else first
    pub no_filter_called : (filter : ℕ) (entries : List Entry) → GoesToFilter moving handling made filter
        → IsInNoRun (record handling { entries = entries }) []
    pub another_call : (filter : ℕ) (entries : List Entry) (call : Record) (others : List Record)
        → GoesToFilter moving handling made filter
        → ((gate : Gate) (left : exchanges.State) → call ≢ before_of filter (first_exchange moving handling made) gate left)
        → IsInNoRun (record handling { entries = entries }) (calls_from moving handling made call others)
    -- its login is given to another session
    pub other_sessions : (number : ℕ) (target : Option (List ℕ)) (store : Store) (others : List Record)
        → IsBecause handling.context handling.request (outcomes.LoggedIn number target) → store ≢ handling.after.store
        → IsInNoRun (record handling { after = record handling.after { store = store } }) others
    -- it is handled with the constraints, the users or the sessions of another context
    pub another_context : (other : Handling (ContextState S F L)) → other.context ≢ handling.context → FollowsInNoRun contexts earlier place other
    -- its outcome is noted for another context, or another one is noted
    pub another_outcome : (cause : Outcome) (other : Entry) (behind : List Entry) (others : List Record)
        → IsBecause handling.context handling.request cause
        → other ≢ outcome_entry handling.context.content.context_path (path_in handling.context handling.request) cause
        → IsInNoRun (record handling { entries = other ∷ behind }) others
    -- a notification is invented, left out or moved
    pub other_notifications : (entries : List Entry) (others : List Record) → ¬ (NotifiesInOrder handling others)
        → IsInNoRun (record handling { entries = entries }) others

  abbrev pub AlteredMessagesAreInNoRun : Type 0
  AlteredMessagesAreInNoRun =
      (before after : State (ContextState S F L) Words) (happenings : List Happening) (answers : List (Answer (ContextState S F L)))
      (lawful : IsLawfulRun moving draws before happenings answers after) (earlier later : List (Transition S F L)) (place : ℕ)
      (handling : Handling (ContextState S F L)) (made : List Record) (text : List ℕ)
      → lawful.transitions ≡ earlier ++ ContextAnswer place handling made text ∷ later
      → IsMessageOfRun before.world.contexts earlier place handling made

  -- a run is lawful exactly if it is so in two parts, with a state between them
  abbrev pub RunsAreLawfulInParts : Type 0
  RunsAreLawfulInParts =
      (before after : State (ContextState S F L) Words) (earlier later : List Happening) (answered answers : List (Answer (ContextState S F L)))
      → length answered ≡ length earlier
      → (IsLawfulRun moving draws before (earlier ++ later) (answered ++ answers) after
      ↔ ((at : State (ContextState S F L) Words) × IsLawfulRun moving draws before earlier answered at × IsLawfulRun moving draws at later answers after))

  -- no lawful run from this state with these answers to the earlier events answers the next one with this effect
  abbrev pub ContinuesInNoRun : State (ContextState S F L) Words → List Happening → List (Answer (ContextState S F L)) → Happening
      → Effect (ContextState S F L) → Type 0
  ContinuesInNoRun before earlier answered happening effect =
      (after : State (ContextState S F L) Words) (later : List Happening) (answers : List (Answer (ContextState S F L)))
      → ¬ (IsLawfulRun moving draws before (earlier ++ happening ∷ later) (answered ++ Ok effect ∷ answers) after)

  -- an event of a lawful run is lawful in the state to which the run has come; with one thing altered in its answer the run is not
  -- lawful, whatever comes after the event
  pub record IsEventOfRun (before : State (ContextState S F L) Words) (earlier : List Happening) (answered : List (Answer (ContextState S F L)))
      (happening : Happening) (effect : Effect (ContextState S F L)) : Type 0 where
    pub at : State (ContextState S F L) Words
    pub next : State (ContextState S F L) Words
    pub own : List (Transition S F L)
    pub reached : IsLawfulRun moving draws before earlier answered at
    pub lawful : IsLawfulEvent moving draws at happening effect own next
    -- a session that has expired ends in silence, or something is noted before it
    pub expires : NotifiesOfExpiriesFirst moving draws at effect happening
    pub silent : (journal : List Entry) → ((others : List Entry) → journal ≢ expires.told ++ others)
        → ContinuesInNoRun before earlier answered happening (record effect { journal = journal })
    -- a tick of the clock notes anything else
    pub other_notifications : (moment : ℕ) (journal : List Entry) → happening ≡ Tick moment → journal ≢ effect.journal
        → ContinuesInNoRun before earlier answered happening (record effect { journal = journal })
    -- a message is swallowed, or refused as bytes that are no message
    pub swallowed : (number : ℕ) (piece : List ℕ) (moment : ℕ) (message : MessageRecord) (items : List Item)
        → happening ≡ Piece number piece moment → BeginsWith moving draws at effect number piece message items
        → ContinuesInNoRun before earlier answered happening (record effect { deeds = [] })
    pub refused : (number : ℕ) (piece : List ℕ) (moment : ℕ) (message : MessageRecord) (items : List Item) (fault : WireFault)
        (others : List (Deed (ContextState S F L)))
        → happening ≡ Piece number piece moment → BeginsWith moving draws at effect number piece message items
        → ContinuesInNoRun before earlier answered happening (record effect { deeds = Answered (entries.Refused (causes.Wire fault)) ∷ others })
    -- the response of another request is sent
    pub another_response : (number : ℕ) (piece : List ℕ) (moment : ℕ) (message : MessageRecord) (place : ℕ) (handling : Handling (ContextState S F L))
        (sends : List ℕ)
        → happening ≡ Piece number piece moment → BeginsWith moving draws at effect number piece message []
        → effect.deeds ≡ Handled place handling ∷ []
        → ¬ (IsAnswerTo message (moment_after at.moment (Piece number piece moment)) handling.response sends)
        → ContinuesInNoRun before earlier answered happening (record effect { sends = sends })
    -- the items of a piece have any other answers, as the responses of two messages exchanged
    pub other_answers : (number : ℕ) (piece : List ℕ) (moment : ℕ) (items : List Item) (deeds : List (Deed (ContextState S F L))) (sends : List ℕ)
        → happening ≡ Piece number piece moment → CompletesAll moving draws at number piece items
        → ¬ (AreAnswersTo moving draws at (moment_after at.moment (Piece number piece moment)) items deeds sends)
        → ContinuesInNoRun before earlier answered happening (record effect { deeds = deeds; sends = sends })

  abbrev pub AlteredEventsAreInNoRun : Type 0
  AlteredEventsAreInNoRun =
      (before after : State (ContextState S F L) Words) (earlier later : List Happening) (happening : Happening)
      (answered answers : List (Answer (ContextState S F L))) (effect : Effect (ContextState S F L))
      → length answered ≡ length earlier
      → IsLawfulRun moving draws before (earlier ++ happening ∷ later) (answered ++ Ok effect ∷ answers) after
      → IsEventOfRun before earlier answered happening effect
