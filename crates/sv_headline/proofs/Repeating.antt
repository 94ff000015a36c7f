-- Lawful runs from one state that answer the same events alike come to the same connections, the same time and the same paths.
use Rattle.std.proofs.Common.{◌≡◌, ℕ, Bool, true, false, List, [], ◌∷◌, ◌++◌, map, Ok, Err, refl, sym, ap, ◌∙◌, subst, append-nil}
use Rattle.std.specs.Bool.{MatchBool}
use Rattle.sv_component.specs.Steps.{ComponentSteps}
use Rattle.sv_context.specs.State.{ContextState}
use Rattle.sv_context.specs.Theory.{theory}
use Rattle.sv_headline.proofs.Leading.{leads_paths, path_of, some_is}
use Rattle.sv_headline.specs.AnswersInOrder.{AreAnswersTo, CompletesAll, IsResponseOf}
use Rattle.sv_headline.specs.Events.{AreTransitionsOf, Brings, IsAnsweredBy}
use Rattle.sv_headline.specs.Transitions.{LeadsThrough, Transition, effect_of_all}
use Rattle.sv_headline.specs.Unlawful.{BeginsWith}
use Rattle.sv_message.specs.declared.message.Message.{Message as MessageRecord}
use Rattle.sv_message.specs.declared.message.Target.{Target}
use Rattle.sv_message.specs.declared.response.Response.{Response}
use Rattle.sv_run.specs.Connections.{Connections, forgotten, opened, with_held}
use Rattle.sv_run.specs.Effect.{Answered, Deed, Effect, Handled}
use Rattle.sv_run.specs.Events.{Edited, Ended, Happening, Lost, Opened, Piece, Tick, moment_after}
use Rattle.sv_run.specs.Feeding.{Feeds, FeedsWhere}
use Rattle.sv_run.specs.Items.{closes_behind}
use Rattle.sv_run.specs.Messages.{destination}
use Rattle.sv_run.specs.Runs.{Answer}
use Rattle.sv_run.specs.State.{State}
use Rattle.sv_wire.specs.Inbox.{Held}
use Rattle.sv_wire.specs.Items.{are_ended}
use Rattle.sv_wire.specs.Laws.{ReadingsAreUnique}
use Rattle.sv_wire.specs.Reads.{Reads}
use Rattle.sv_wire.specs.declared.item.Item.{Item}
use Rattle.sv_wire.specs.declared.item.Item.TheVariants.{Continue, Message, Refuse}

match_alike : (A B C : Type 0) (test : Bool) → (B → C) → MatchBool test A B → MatchBool test A C
match_alike A B C true change its = its
match_alike A B C false change its = change its

module _ {S F L Words : Type 0} (moving : ComponentSteps S F L) (draws : Words → ℕ × ℕ → Words → Type 0) where
  abbrev Whole : Type 0
  Whole = State (ContextState S F L) Words

  -- two states have the same connections and the same time
  pub record AgreesWith (one other : Whole) : Type 0 where
    pub same_connections : one.connections ≡ other.connections
    pub same_time : one.moment ≡ other.moment

  -- ---- paths

  pub through_paths : (before after : List (ContextState S F L)) (transitions : List (Transition S F L)) → LeadsThrough moving before transitions after
      → map path_of after ≡ map path_of before
  through_paths before after [] leads = ap (map path_of) leads
  through_paths before after (transition ∷ transitions) leads =
      through_paths leads.0 after transitions leads.2 ∙ leads_paths moving before leads.0 transition leads.1

  -- ---- items, from one state to the other

  pub begins_there : (one other : Whole) (effect its_effect : Effect (ContextState S F L)) (number : ℕ) (piece : List ℕ) (message : MessageRecord)
      (items : List Item) → AgreesWith one other → BeginsWith moving draws one effect number piece message items
      → BeginsWith moving draws other its_effect number piece message items
  begins_there one other effect its_effect number piece message items same begins = record {
    held = begins.held;
    holds = ap (λ (connections : Connections). connections.held number) (sym same.same_connections) ∙ begins.holds;
    left = begins.left;
    feeds = begins.feeds;
  }

  pub completes_there : (one other : Whole) (number : ℕ) (piece : List ℕ) (items : List Item) → AgreesWith one other
      → CompletesAll moving draws one number piece items → CompletesAll moving draws other number piece items
  completes_there one other number piece items same completes = record {
    held = completes.held;
    holds = ap (λ (connections : Connections). connections.held number) (sym same.same_connections) ∙ completes.holds;
    left = completes.left;
    feeds = completes.feeds;
  }

  module _ (one other : Whole) (moment : ℕ)
      (goes : (target : Target) → destination (theory moving draws) other.world.contexts target ≡ destination (theory moving draws) one.world.contexts target) where
    response_there : (message : MessageRecord) (deed : Deed (ContextState S F L)) (response : Response) → IsResponseOf moving draws other message deed response
        → IsResponseOf moving draws one message deed response
    response_there message (Handled place handling) response is = (is.0, sym (goes message.target) ∙ is.1, is.2, is.3)
    response_there message (Answered entry) response is = sym (goes message.target) ∙ is

    pub answers_there : (items : List Item) (deeds : List (Deed (ContextState S F L))) (sends : List ℕ) → AreAnswersTo moving draws other moment items deeds sends
        → AreAnswersTo moving draws one moment items deeds sends
    answers_there [] deeds sends are = are
    answers_there (Continue ∷ items) deeds sends are = (are.0, are.1, answers_there items deeds are.0 are.2)
    answers_there (Refuse fault ∷ items) deeds sends are = are
    answers_there (Message message ∷ items) [] sends are = absurd are
    answers_there (Message message ∷ items) (deed ∷ deeds) sends are = (
      are.0,
      are.1,
      are.2,
      response_there message deed are.0 are.3,
      are.4,
      are.5,
      match_alike ((deeds ≡ []) × (are.2 ≡ [])) (AreAnswersTo moving draws other moment items deeds are.2) (AreAnswersTo moving draws one moment items deeds are.2)
          (closes_behind message are.0) (answers_there items deeds are.2) are.6,
    )

  -- ---- events

  module _ (unique : ReadingsAreUnique) where
    left_once : (held left its_left : Held) (bytes : List ℕ) (items others : List Item) → Feeds held bytes items left → Feeds held bytes others its_left
        → left ≡ its_left
    left_once held left its_left bytes items others = by_spent held.spent
      where
        by_spent : (spent : Bool)
            → MatchBool spent ((items ≡ []) × (left ≡ held)) (Reads held.owed (held.rest ++ bytes) items left.owed left.rest × (left.spent ≡ are_ended items))
            → MatchBool spent ((others ≡ []) × (its_left ≡ held)) (Reads held.owed (held.rest ++ bytes) others its_left.owed its_left.rest × (its_left.spent ≡ are_ended others))
            → left ≡ its_left
        by_spent true one other = one.1 ∙ sym other.1
        by_spent false one other =
            let same = unique held.owed (held.rest ++ bytes) items others left.owed left.rest its_left.owed its_left.rest one.0 other.0 in
            let spent : left.spent ≡ its_left.spent = one.1 ∙ ap are_ended same.0 ∙ sym other.1 in
            λ i. record { spent = spent i; owed = same.1 i; rest = same.2 i }

    left_where : (closes : Bool) (held left its_left : Held) (piece : List ℕ) (items others : List Item) → FeedsWhere closes held piece items left
        → FeedsWhere closes held piece others its_left → left ≡ its_left
    left_where true held left its_left piece items others one other = one.is_after ∙ sym other.is_after
    left_where false held left its_left piece items others one other =
        let all : piece ≡ one.part = one.is_piece ∙ ap (λ rest. one.part ++ rest) (one.is_all refl) ∙ append-nil one.part in
        let its_all : piece ≡ other.part = other.is_piece ∙ ap (λ rest. other.part ++ rest) (other.is_all refl) ∙ append-nil other.part in
        one.is_after
        ∙ left_once held one.left other.left piece items others (subst (λ bytes. Feeds held bytes items one.left) (sym all) one.feeds)
        (subst (λ bytes. Feeds held bytes others other.left) (sym its_all) other.feeds)
        ∙ sym other.is_after

    brought_once : (one other after its_after : Whole) (happening : Happening) (transitions others : List (Transition S F L))
        → one.connections ≡ other.connections → (effect_of_all transitions).closes ≡ (effect_of_all others).closes
        → Brings moving draws one happening transitions after → Brings moving draws other happening others its_after → after.connections ≡ its_after.connections
    brought_once one other after its_after (Opened number) transitions others same closes first later = first.1 ∙ ap (opened number) same ∙ sym later.1
    brought_once one other after its_after (Piece number bytes moment) transitions others same closes first later =
        let held : later.held ≡ first.held =
        some_is (sym later.holds ∙ ap (λ (connections : Connections). connections.held number) (sym same) ∙ first.holds) in
        let left = left_where (effect_of_all transitions).closes first.held first.left later.left bytes first.items later.items first.feeds
        (subst (λ its. FeedsWhere its first.held bytes later.items later.left) (sym closes)
        (subst (λ its. FeedsWhere (effect_of_all others).closes its bytes later.items later.left) held later.feeds)) in
        first.connections ∙ (λ i. with_held number (left i) (same i)) ∙ sym later.connections
    brought_once one other after its_after (Ended number) transitions others same closes first later = first.1 ∙ ap (forgotten number) same ∙ sym later.1
    brought_once one other after its_after (Lost number) transitions others same closes first later = first.1 ∙ ap (forgotten number) same ∙ sym later.1
    brought_once one other after its_after (Tick moment) transitions others same closes first later = first.1 ∙ same ∙ sym later.1
    brought_once one other after its_after (Edited path edit) transitions others same closes first later =
        first.1.1 ∙ same ∙ sym later.1.1

    pub event_once : (one other after its_after : Whole) (happening : Happening) (answer : Answer (ContextState S F L)) (transitions others : List (Transition S F L))
        → AgreesWith one other → IsAnsweredBy moving draws one happening answer transitions after
        → IsAnsweredBy moving draws other happening answer others its_after → AgreesWith after its_after
    event_once one other after its_after happening (Ok effect) transitions others same first later =
        let closes : (effect_of_all first.brought).closes ≡ (effect_of_all later.brought).closes =
        ap (λ (its : Effect (ContextState S F L)). its.closes)
        (sym (first.effect_is ∙ ap effect_of_all first.are) ∙ later.effect_is ∙ ap effect_of_all later.are) in
        record {
          same_connections = brought_once one other after its_after happening first.brought later.brought same.same_connections closes first.brings later.brings;
          same_time = first.time ∙ ap (λ moment. moment_after moment happening) same.same_time ∙ sym later.time;
        }
    event_once one other after its_after happening (Err fault) transitions others same first later = record {
      same_connections = ap (λ (state : Whole). state.connections) first.stays ∙ same.same_connections ∙ sym (ap (λ (state : Whole). state.connections) later.stays);
      same_time = ap (λ (state : Whole). state.moment) first.stays ∙ same.same_time ∙ sym (ap (λ (state : Whole). state.moment) later.stays);
    }

    pub events_once : (one other after its_after : Whole) (happenings : List Happening) (answers : List (Answer (ContextState S F L)))
        (transitions others : List (Transition S F L)) → AgreesWith one other → AreTransitionsOf moving draws one happenings answers transitions after
        → AreTransitionsOf moving draws other happenings answers others its_after → AgreesWith after its_after
    events_once one other after its_after [] [] transitions others same first later = record {
      same_connections = ap (λ (state : Whole). state.connections) first.1 ∙ same.same_connections ∙ sym (ap (λ (state : Whole). state.connections) later.1);
      same_time = ap (λ (state : Whole). state.moment) first.1 ∙ same.same_time ∙ sym (ap (λ (state : Whole). state.moment) later.1);
    }
    events_once one other after its_after [] (answer ∷ answers) transitions others same first later = absurd first
    events_once one other after its_after (happening ∷ happenings) [] transitions others same first later = absurd first
    events_once one other after its_after (happening ∷ happenings) (answer ∷ answers) transitions others same first later =
        events_once first.2 later.2 after its_after happenings answers first.1 later.1
        (event_once one other first.2 later.2 happening answer first.0 later.0 same first.3 later.3) first.4 later.4
