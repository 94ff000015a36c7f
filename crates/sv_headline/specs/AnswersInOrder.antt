-- The answers to all items that a piece completes, in their order (RFC 9112, sections 9.2, 9.3 and 9.6).
use Rattle.std.specs.Prelude.{◌≡◌, ℕ, false, List, [], ◌∷◌, ◌++◌, Some}
use Rattle.std.specs.Bool.{MatchBool}
use Rattle.sv_component.specs.Steps.{ComponentSteps}
use Rattle.sv_context.specs.State.{ContextState}
use Rattle.sv_context.specs.Theory.{theory}
use Rattle.sv_headline.specs.Events.{IsLawfulEvent}
use Rattle.sv_headline.specs.Transitions.{Transition}
use Rattle.sv_headline.specs.Unlawful.{IsLawfulNever}
use Rattle.sv_journal.specs.declared.entry.Entry.TheVariants.{Refused}
use Rattle.sv_journal.specs.declared.refusal_cause.RefusalCause.TheVariants as causes
use Rattle.sv_message.specs.declared.message.Message.{Message as MessageRecord}
use Rattle.sv_message.specs.declared.response.Response.{Response}
use Rattle.sv_run.specs.Effect.{Answered, Deed, Effect, Handled}
use Rattle.sv_run.specs.Events.{Piece, moment_after}
use Rattle.sv_run.specs.Feeding.{Feeds}
use Rattle.sv_run.specs.Items.{IsAnswerTo, IsTextAt, closes_behind, continue_text}
use Rattle.sv_run.specs.Messages.{Itself, Within, destination, plain_response}
use Rattle.sv_run.specs.State.{State}
use Rattle.sv_uri.specs.declared.path.Canon.{Canon}
use Rattle.sv_wire.specs.Inbox.{Held}
use Rattle.sv_wire.specs.WireFault.{fault_status}
use Rattle.sv_wire.specs.declared.item.Item.{Item}
use Rattle.sv_wire.specs.declared.item.Item.TheVariants.{Continue, Message, Refuse}

module _ {S F L Words : Type 0} (moving : ComponentSteps S F L) (draws : Words → ℕ × ℕ → Words → Type 0) (before : State (ContextState S F L) Words) where
  -- the response to a message, by its deed: the context of its target handled it, or the container answers this target itself
  abbrev pub IsResponseOf : MessageRecord → Deed (ContextState S F L) → Response → Type 0
  IsResponseOf message (Handled place handling) response =
      (canon : Canon) × (destination (theory moving draws) before.world.contexts message.target ≡ Within place canon)
      × (handling.request.message ≡ message) × (response ≡ handling.response)
  IsResponseOf message (Answered entry) response = destination (theory moving draws) before.world.contexts message.target ≡ Itself entry response

  module _ (moment : ℕ) where
    -- these deeds and these bytes answer the items, each by its own and in their order, up to the first that closes the connection
    abbrev pub AreAnswersTo : List Item → List (Deed (ContextState S F L)) → List ℕ → Type 0
    AreAnswersTo [] deeds sends = (deeds ≡ []) × (sends ≡ [])
    AreAnswersTo (Continue ∷ items) deeds sends = (others : List ℕ) × (sends ≡ continue_text ++ others) × AreAnswersTo items deeds others
    AreAnswersTo (Refuse fault ∷ items) deeds sends =
        (deeds ≡ Answered (Refused (causes.Wire fault)) ∷ []) × IsTextAt moment (plain_response (fault_status fault)) false false sends
    AreAnswersTo (Message message ∷ items) [] sends = ⊥
    AreAnswersTo (Message message ∷ items) (deed ∷ deeds) sends =
        (response : Response) × (text others : List ℕ) × IsResponseOf message deed response × IsAnswerTo message moment response text
        × (sends ≡ text ++ others)
        × MatchBool (closes_behind message response) ((deeds ≡ []) × (others ≡ [])) (AreAnswersTo items deeds others)

  -- with the bytes that the connection holds, the piece completes these items and no others
  pub record CompletesAll (number : ℕ) (piece : List ℕ) (items : List Item) : Type 0 where
    pub held : Held
    pub holds : before.connections.held number ≡ Some held
    pub left : Held
    pub feeds : Feeds held piece items left

  -- the items of a piece are answered in their order; with any other answers, as without that of one message, with a refusal in its
  -- place, or with those of two messages exchanged, the event is not lawful
  pub record AnswersInOrder (effect : Effect (ContextState S F L)) (number : ℕ) (piece : List ℕ) (moment : ℕ) (items : List Item) : Type 0 where
    pub answers : AreAnswersTo (moment_after before.moment (Piece number piece moment)) items effect.deeds effect.sends
    pub other_answers : (deeds : List (Deed (ContextState S F L))) (sends : List ℕ)
        → ¬ (AreAnswersTo (moment_after before.moment (Piece number piece moment)) items deeds sends)
        → IsLawfulNever moving draws before effect (Piece number piece moment) (record effect { deeds = deeds; sends = sends })

module _ {S F L Words : Type 0} (moving : ComponentSteps S F L) (draws : Words → ℕ × ℕ → Words → Type 0) where
  abbrev pub ItemsAreAnsweredInOrder : Type 0
  ItemsAreAnsweredInOrder =
      (before after : State (ContextState S F L) Words) (effect : Effect (ContextState S F L)) (transitions : List (Transition S F L)) (number : ℕ)
      (piece : List ℕ) (moment : ℕ) (items : List Item)
      → CompletesAll moving draws before number piece items
      → IsLawfulEvent moving draws before (Piece number piece moment) effect transitions after
      → AnswersInOrder moving draws before effect number piece moment items
