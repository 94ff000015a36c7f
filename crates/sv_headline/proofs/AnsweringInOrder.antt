-- The items of a piece are answered in their order.
use Rattle.std.proofs.Common.{◌≡◌, ℕ, Bool, true, false, List, [], ◌∷◌, ◌++◌, refl, sym, ap, ◌∙◌, subst, append-nil}
use Rattle.std.specs.Bool.{MatchBool}
use Rattle.std.specs.Prelude.{◌||◌}
use Rattle.sv_component.specs.Steps.{ComponentSteps}
use Rattle.sv_context.specs.State.{ContextState}
use Rattle.sv_context.specs.Theory.{theory}
use Rattle.sv_headline.proofs.Leading.{some_is}
use Rattle.sv_headline.proofs.RefutingEvents.{read_alike}
use Rattle.sv_headline.specs.AnswersInOrder.{AreAnswersTo, CompletesAll, ItemsAreAnsweredInOrder}
use Rattle.sv_headline.specs.Events.{Answers, AreOf, IsLawfulEvent, IsOf}
use Rattle.sv_headline.specs.Transitions.{Refusal, Transition, effect_of, effect_of_all}
use Rattle.sv_message.specs.declared.message.Message.{Message as MessageRecord}
use Rattle.sv_message.specs.declared.message.Target.{Target}
use Rattle.sv_run.specs.Contexts.{Request}
use Rattle.sv_run.specs.Effect.{Effect}
use Rattle.sv_run.specs.Events.{Piece, moment_after}
use Rattle.sv_run.specs.Feeding.{FeedsWhere}
use Rattle.sv_run.specs.Items.{IsTextAt, closes_behind}
use Rattle.sv_run.specs.Laws.{FeedingsMayBeCut}
use Rattle.sv_run.specs.Messages.{Destination, Itself, Within, destination, plain_response}
use Rattle.sv_run.specs.State.{State}
use Rattle.sv_wire.specs.Laws.{ReadingsAreUnique}
use Rattle.sv_wire.specs.WireFault.{fault_status}
use Rattle.sv_wire.specs.declared.item.Item.{Item}
use Rattle.sv_wire.specs.declared.item.Item.TheVariants.{Continue, Message, Refuse}

module _ {S F L Words : Type 0} (moving : ComponentSteps S F L) (draws : Words → ℕ × ℕ → Words → Type 0) where
  abbrev Whole : Type 0
  Whole = State (ContextState S F L) Words

  module _ (before : Whole) (moment : ℕ) where
    abbrev goes_to : Target → Destination
    goes_to = destination (theory moving draws) before.world.contexts

    -- the transitions answer the items
    abbrev Answer : List Item → List (Transition S F L) → Type 0
    Answer items transitions = AreAnswersTo moving draws before moment items (effect_of_all transitions).deeds (effect_of_all transitions).sends

    -- the transitions behind one
    abbrev Behind : List Item → Words → List (Transition S F L) → Words → Transition S F L → Type 0
    Behind items between others after transition =
        MatchBool (effect_of transition).closes ((others ≡ []) × (after ≡ between)) (AreOf draws goes_to moment items between others after)

    -- if the connection stays open, no items are left
    abbrev Reads : List Item → List (Transition S F L) → Type 0
    Reads more transitions = (effect_of_all transitions).closes ≡ false → more ≡ []

    nothing_behind : (others : List (Transition S F L)) → others ≡ [] → ((effect_of_all others).deeds ≡ []) × ((effect_of_all others).sends ≡ [])
    nothing_behind others none = (ap (λ its. (effect_of_all its).deeds) none, ap (λ its. (effect_of_all its).sends) none)

    module _ (read more : List Item) (between after : Words) (others : List (Transition S F L))
        (later : AreOf draws goes_to moment read between others after → Reads more others → Answer (read ++ more) others) where
      -- nothing follows a transition that closes the connection, and the others answer the items that are left
      behind_of : (closes : Bool) → (closes ≡ false → Reads more others)
          → MatchBool closes ((others ≡ []) × (after ≡ between)) (AreOf draws goes_to moment read between others after)
          → MatchBool closes (((effect_of_all others).deeds ≡ []) × ((effect_of_all others).sends ≡ [])) (Answer (read ++ more) others)
      behind_of true reads behind = nothing_behind others behind.0
      behind_of false reads behind = later behind (reads refl)

      answered : (message : MessageRecord) (words : ℕ × ℕ) (to : Destination) (transition : Transition S F L) → goes_to message.target ≡ to
          → Answers draws goes_to moment to message words transition → Behind read between others after transition → Reads more (transition ∷ others)
          → Answer (Message message ∷ read ++ more) (transition ∷ others)
      answered message words (Itself entry response) transition is answers =
          subst (λ its. Behind read between others after its → Reads more (its ∷ others) → Answer (Message message ∷ read ++ more) (its ∷ others)) (sym answers.2)
          (λ behind reads. (
            response,
            answers.0,
            (effect_of_all others).sends,
            is,
            answers.1,
            refl,
            behind_of (closes_behind message response) (λ stays stays_open. reads (ap (λ t. t || (effect_of_all others).closes) stays ∙ stays_open)) behind,
          ))
      answered message words (Within place canon) transition is answers =
          let handling = answers.0 in
          let same : handling.request.message ≡ message = ap (λ (request : Request). request.message) answers.3 in
          subst (λ its. Behind read between others after its → Reads more (its ∷ others) → Answer (Message message ∷ read ++ more) (its ∷ others)) (sym answers.5)
          (λ behind reads. (
            handling.response,
            answers.2,
            (effect_of_all others).sends,
            (canon, is, same, refl),
            answers.4,
            refl,
            behind_of (closes_behind message handling.response)
                (λ stays stays_open. reads
                (ap (λ its. closes_behind its handling.response || (effect_of_all others).closes) same
                ∙ ap (λ t. t || (effect_of_all others).closes) stays ∙ stays_open))
                (subst (λ its. MatchBool (closes_behind its handling.response) ((others ≡ []) × (after ≡ between)) (AreOf draws goes_to moment read between others after))
                same behind),
          ))

      by_item : (item : Item) (words : Words) (transition : Transition S F L) → IsOf draws goes_to moment item words transition between
          → Behind read between others after transition → Reads more (transition ∷ others) → Answer (item ∷ read ++ more) (transition ∷ others)
      by_item Continue words transition is =
          subst (λ its. Behind read between others after its → Reads more (its ∷ others) → Answer (Continue ∷ read ++ more) (its ∷ others)) (sym is.0)
          (λ behind reads. ((effect_of_all others).sends, refl, later behind reads))
      by_item (Refuse fault) words transition is =
          subst (λ its. Behind read between others after its → Reads more (its ∷ others) → Answer (Refuse fault ∷ read ++ more) (its ∷ others)) (sym is.2)
          (λ behind reads. (
            ap (λ its. (effect_of_all (Refusal fault is.0 ∷ its)).deeds) behind.0,
            subst (IsTextAt moment (plain_response (fault_status fault)) false false)
                (sym (ap (λ its. (effect_of_all (Refusal fault is.0 ∷ its)).sends) behind.0 ∙ append-nil is.0)) is.1,
          ))
      by_item (Message message) words transition is =
          answered message is.0 (goes_to message.target) transition refl is.2

    answers_of : (read more : List Item) (words after : Words) (transitions : List (Transition S F L))
        → AreOf draws goes_to moment read words transitions after → Reads more transitions → Answer (read ++ more) transitions
    answers_of [] more words after transitions are reads =
        let none : more ≡ [] = reads (ap (λ its. (effect_of_all its).closes) are.0) in
        subst (λ items. Answer items transitions) (sym none) (nothing_behind transitions are.0)
    answers_of (item ∷ read) more words after transitions are reads =
        subst (Answer (item ∷ read ++ more)) (sym are.3)
        (by_item read more are.2 after are.1 (answers_of read more are.2 after are.1) item words are.0 are.4 are.5
        (subst (Reads more) are.3 reads))

  module _ (cuts : FeedingsMayBeCut) (unique : ReadingsAreUnique) where
    pub in_order : (before after : Whole) (effect : Effect (ContextState S F L)) (transitions : List (Transition S F L)) (number : ℕ) (piece : List ℕ) (moment : ℕ)
        (items : List Item) → CompletesAll moving draws before number piece items
        → IsLawfulEvent moving draws before (Piece number piece moment) effect transitions after
        → AreAnswersTo moving draws before (moment_after before.moment (Piece number piece moment)) items effect.deeds effect.sends
    in_order before after effect transitions number piece moment items completes lawful =
        let brings = lawful.brings in
        let closes = (effect_of_all lawful.brought).closes in
        let same = some_is (sym brings.holds ∙ completes.holds) in
        let alike = read_alike moving draws cuts unique closes completes.held completes.left brings.left piece items brings.items completes.feeds
        (subst (λ held. FeedsWhere closes held piece brings.items brings.left) same brings.feeds) in
        let are : items ≡ brings.items ++ alike.more = alike.are ∙ ap (λ front. front ++ alike.more) (sym alike.others_are) in
        let effect_is = lawful.effect_is ∙ ap effect_of_all lawful.are in
        let its = answers_of before after.moment brings.items alike.more before.world.words after.world.words lawful.brought brings.are alike.all_read in
        subst (λ when. AreAnswersTo moving draws before when items effect.deeds effect.sends) lawful.time
        (subst (λ all. AreAnswersTo moving draws before after.moment all effect.deeds effect.sends) (sym are)
        (subst (λ (effect : Effect (ContextState S F L)). AreAnswersTo moving draws before after.moment (brings.items ++ alike.more) effect.deeds effect.sends)
        (sym effect_is) its))

    pub items_are_answered_in_order : ItemsAreAnsweredInOrder moving draws
    items_are_answered_in_order before after effect transitions number piece moment items completes lawful = record {
      answers = in_order before after effect transitions number piece moment items completes lawful;
      other_answers = λ deeds sends apart others its_after its.
          apart (in_order before its_after (record effect { deeds = deeds; sends = sends }) others number piece moment items completes its);
    }
