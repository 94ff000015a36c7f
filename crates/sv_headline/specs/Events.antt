-- The transitions of an event: from the bytes of a connection to messages and refusals, and back to the bytes that are sent
-- (RFC 9112, section 9; Jakarta Servlet 6.0, section 7.5).
use Rattle.std.specs.Prelude.{◌≡◌, ℕ, false, List, [], ◌∷◌, ◌++◌, None, Some, Result, Ok, Err}
use Rattle.std.specs.Bool.{MatchBool}
use Rattle.sv_component.specs.Runs.{Record}
use Rattle.sv_component.specs.Steps.{ComponentSteps}
use Rattle.sv_context.specs.State.{ContextState}
use Rattle.sv_context.specs.Theory.{theory}
use Rattle.sv_headline.specs.Transitions.{Closing, ContextAnswer, Continuation, EditAnswer, Expiries, Expiry, LeadsThrough, OwnAnswer, Refusal, Transition, effect_of, effect_of_all}
use Rattle.sv_message.specs.declared.message.Message.{Message as MessageRecord}
use Rattle.sv_message.specs.declared.message.Target.{Target}
use Rattle.sv_policy.specs.declared.edit_fault.EditFault.{EditFault}
use Rattle.sv_run.specs.Connections.{Connections, forgotten, opened, with_held}
use Rattle.sv_run.specs.Contexts.{Handling, request_of}
use Rattle.sv_run.specs.Editing.{place_with}
use Rattle.sv_run.specs.Effect.{Effect}
use Rattle.sv_run.specs.Events.{Edited, Ended, Happening, Lost, Opened, Piece, Tick, fault_of, moment_after}
use Rattle.sv_run.specs.Feeding.{FeedsWhere}
use Rattle.sv_run.specs.Items.{IsAnswerTo, IsTextAt}
use Rattle.sv_run.specs.Messages.{Destination, Itself, Within, destination, plain_response}
use Rattle.sv_run.specs.Runs.{Answer}
use Rattle.sv_run.specs.State.{State}
use Rattle.sv_run.specs.declared.step_fault.StepFault.{StepFault}
use Rattle.sv_wire.specs.Inbox.{Held}
use Rattle.sv_wire.specs.WireFault.{fault_status}
use Rattle.sv_wire.specs.declared.item.Item.{Item}
use Rattle.sv_wire.specs.declared.item.Item.TheVariants.{Continue, Message, Refuse}

module _ {S F L Words : Type 0} (draws : Words → ℕ × ℕ → Words → Type 0) (goes_to : Target → Destination) (moment : ℕ) where
  -- the answer to a message, from its destination, with the text of the response
  abbrev pub Answers : Destination → MessageRecord → ℕ × ℕ → Transition S F L → Type 0
  Answers (Itself entry response) message words transition =
      (text : List ℕ) × IsAnswerTo message moment response text × (transition ≡ OwnAnswer message entry response text)
  Answers (Within place canon) message words transition =
      (handling : Handling (ContextState S F L)) × (made : List Record) × (text : List ℕ)
      × (handling.request ≡ request_of message canon moment words)
      × IsAnswerTo message moment handling.response text × (transition ≡ ContextAnswer place handling made text)

  -- the transition of an item that the bytes complete; each message draws a pair of random words
  abbrev pub IsOf : Item → Words → Transition S F L → Words → Type 0
  IsOf Continue before transition after = (transition ≡ Continuation) × (after ≡ before)
  IsOf (Refuse fault) before transition after =
      (text : List ℕ) × IsTextAt moment (plain_response (fault_status fault)) false false text
      × (transition ≡ Refusal fault text) × (after ≡ before)
  IsOf (Message message) before transition after = (words : ℕ × ℕ) × draws before words after × Answers (goes_to message.target) message words transition

  -- each item has its transition, in order, up to the first that closes the connection
  abbrev pub AreOf : List Item → Words → List (Transition S F L) → Words → Type 0
  AreOf [] before transitions after = (transitions ≡ []) × (after ≡ before)
  AreOf (item ∷ items) before transitions after =
      (transition : Transition S F L) × (others : List (Transition S F L)) × (between : Words)
      × (transitions ≡ transition ∷ others) × IsOf item before transition between
      × MatchBool (effect_of transition).closes ((others ≡ []) × (after ≡ between)) (AreOf items between others after)

module _ {S F L Words : Type 0} (moving : ComponentSteps S F L) (draws : Words → ℕ × ℕ → Words → Type 0) where
  -- these transitions and no others; the connections are these afterwards, and no random words are drawn
  abbrev pub Only : List (Transition S F L) → Connections → State (ContextState S F L) Words → List (Transition S F L) → State (ContextState S F L) Words → Type 0
  Only wanted connections before transitions after =
      (transitions ≡ wanted) × (after.connections ≡ connections) × (after.world.words ≡ before.world.words)

  -- the items that a piece of a connection completes have their transitions
  pub record Completes (before : State (ContextState S F L) Words) (number : ℕ) (piece : List ℕ) (transitions : List (Transition S F L))
      (after : State (ContextState S F L) Words) : Type 0 where
    pub held : Held
    pub holds : before.connections.held number ≡ Some held
    pub items : List Item
    pub left : Held
    pub feeds : FeedsWhere (effect_of_all transitions).closes held piece items left
    pub are : AreOf draws (destination (theory moving draws) before.world.contexts) after.moment items before.world.words transitions after.world.words
    pub connections : after.connections ≡ with_held number left before.connections

  -- what an event itself brings
  abbrev pub Brings : State (ContextState S F L) Words → Happening → List (Transition S F L) → State (ContextState S F L) Words → Type 0
  Brings before (Opened number) transitions after = Only [] (opened number before.connections) before transitions after
  Brings before (Piece number bytes moment) transitions after = Completes before number bytes transitions after
  Brings before (Ended number) transitions after = Only (Closing ∷ []) (forgotten number before.connections) before transitions after
  Brings before (Lost number) transitions after = Only [] (forgotten number before.connections) before transitions after
  Brings before (Tick moment) transitions after = Only [] before.connections before transitions after
  Brings before (Edited path edit) transitions after =
      (answer : Result ℕ EditFault)
      × Only (EditAnswer (place_with (theory moving draws) before.world.contexts path) edit answer ∷ []) before.connections before transitions after

  -- the transitions of an event: the expired sessions end at its time, and then come those that it brings; each leads the
  -- contexts on; and what is sent and noted is that of these transitions
  pub record IsLawfulEvent (before : State (ContextState S F L) Words) (happening : Happening) (effect : Effect (ContextState S F L))
      (transitions : List (Transition S F L)) (after : State (ContextState S F L) Words) : Type 0 where
    pub runs : before.stopped ≡ false
    pub goes_on : after.stopped ≡ false
    pub no_fault : fault_of before.connections happening ≡ None
    pub time : after.moment ≡ moment_after before.moment happening
    pub expiries : List (Expiry S F L)
    pub brought : List (Transition S F L)
    pub are : transitions ≡ Expiries after.moment expiries ∷ brought
    pub brings : Brings before happening brought after
    pub leads : LeadsThrough moving before.world.contexts transitions after.world.contexts
    pub effect_is : effect ≡ effect_of_all transitions

  -- an event that is refused by its fault has no transition, and changes nothing
  pub record IsRefusedEvent (before : State (ContextState S F L) Words) (happening : Happening) (fault : StepFault)
      (transitions : List (Transition S F L)) (after : State (ContextState S F L) Words) : Type 0 where
    pub runs : before.stopped ≡ false
    pub is_fault : fault_of before.connections happening ≡ Some fault
    pub none : transitions ≡ []
    pub stays : after ≡ before

  abbrev pub IsAnsweredBy : State (ContextState S F L) Words → Happening → Answer (ContextState S F L) → List (Transition S F L)
      → State (ContextState S F L) Words → Type 0
  IsAnsweredBy before happening (Ok effect) transitions after = IsLawfulEvent before happening effect transitions after
  IsAnsweredBy before happening (Err fault) transitions after = IsRefusedEvent before happening fault transitions after

  -- each event has its answer and its transitions
  abbrev pub AreTransitionsOf : State (ContextState S F L) Words → List Happening → List (Answer (ContextState S F L)) → List (Transition S F L)
      → State (ContextState S F L) Words → Type 0
  AreTransitionsOf before [] [] transitions after = (transitions ≡ []) × (after ≡ before)
  AreTransitionsOf before (happening ∷ happenings) (answer ∷ answers) transitions after =
      (own : List (Transition S F L)) × (others : List (Transition S F L)) × (between : State (ContextState S F L) Words)
      × IsAnsweredBy before happening answer own between × AreTransitionsOf between happenings answers others after
      × (transitions ≡ own ++ others)
  AreTransitionsOf before [] (answer ∷ answers) transitions after = ⊥
  AreTransitionsOf before (happening ∷ happenings) [] transitions after = ⊥
