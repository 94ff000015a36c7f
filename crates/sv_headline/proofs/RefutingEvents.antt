-- Events that are answered wrongly are not lawful.
use Rattle.std.proofs.Common.{◌≡◌, ◌≢◌, ℕ, zero, suc, Bool, true, false, List, [], ◌∷◌, ◌++◌, map, length, Option, None, Some, Result, Ok, Err, refl, sym, ap, ◌∙◌, subst, slice_get, append-nil}
use Rattle.std.specs.Bool.{MatchBool}
use Rattle.std.specs.List.{AllByRecursion, flat_map, range_with_len}
use Rattle.std.specs.Prelude.{reverse}
use Rattle.std.proofs.lemmas.List.{length-map, length-reverse}
use Rattle.std.proofs.lemmas.List.FromFn.{length-range_with_len}
use Rattle.sv_component.specs.Runs.{OfListener, record_entry}
use Rattle.sv_component.specs.Steps.{ComponentSteps}
use Rattle.sv_context.specs.Conduct.{unnoted}
use Rattle.sv_context.specs.Expiry.{ends_told}
use Rattle.sv_context.specs.State.{ContextState, world_of}
use Rattle.sv_context.specs.Theory.{theory}
use Rattle.sv_headline.proofs.Leading.{some_is}
use Rattle.sv_headline.specs.Events.{Answers, AreOf, IsLawfulEvent, IsOf}
use Rattle.sv_headline.specs.Transitions.{Expiries, Expiry, IsExpiry, LeadsThrough, Transition, effect_of, effect_of_all, entries_of}
use Rattle.sv_headline.specs.Unlawful.{AnswersTheMessage, BeginsWith, EventsNotifyOfExpiriesFirst, IsDeedOf, MessagesAreAnswered, ResponsesAreOfTheirRequest, SendsItsResponse, TicksNotifyOnlyOfExpiries}
use Rattle.sv_journal.specs.declared.entry.Entry.{Entry}
use Rattle.sv_journal.specs.declared.entry.Entry.TheVariants as entries
use Rattle.sv_journal.specs.declared.refusal_cause.RefusalCause.TheVariants as causes
use Rattle.sv_listeners.specs.Telling.{told}
use Rattle.sv_message.specs.declared.message.Message.{Message as MessageRecord}
use Rattle.sv_message.specs.declared.message.Target.{Target}
use Rattle.sv_message.specs.declared.message.Target.TheVariants.{Star, Path}
use Rattle.sv_message.specs.declared.response.Response.{Response}
use Rattle.sv_run.specs.Contexts.{Handling, Request}
use Rattle.sv_run.specs.Effect.{Answered, Deed, Effect, Handled}
use Rattle.sv_run.specs.Events.{Happening, Piece, Tick, moment_after}
use Rattle.sv_run.specs.Feeding.{Feeds, FeedsWhere}
use Rattle.sv_run.specs.Items.{IsAnswerTo}
use Rattle.sv_run.specs.Laws.{FeedingsMayBeCut}
use Rattle.sv_run.specs.Messages.{Destination, Itself, Within, destination, destination_at, destination_in, destination_of}
use Rattle.sv_run.specs.State.{State}
use Rattle.sv_session.specs.Calls.{expiring, left_by_expiry}
use Rattle.sv_session.specs.Runs.{Expires}
use Rattle.sv_session.specs.Store.{Store}
use Rattle.sv_session.specs.declared.ended_sessions.EndedSession.{EndedSession}
use Rattle.sv_session.specs.declared.event.Event.TheVariants.{SessionDestroyed}
use Rattle.sv_uri.specs.Canonical.{canonical}
use Rattle.sv_uri.specs.declared.fault.PathFault.{PathFault}
use Rattle.sv_uri.specs.declared.path.Canon.{Canon}
use Rattle.sv_wire.specs.Inbox.{Held}
use Rattle.sv_wire.specs.Items.{are_ended}
use Rattle.sv_wire.specs.Laws.{ReadingsAreUnique}
use Rattle.sv_wire.specs.Reads.{Reads}
use Rattle.sv_wire.specs.declared.item.Item.{Item}
use Rattle.sv_wire.specs.declared.item.Item.TheVariants.{Message}
use Rattle.sv_wire.specs.declared.wire_fault.WireFault.{WireFault}

none_not_some : {X : Type 0} (value : X) → ◌≡◌ {A = Option X} None (Some value) → ⊥
none_not_some value same = absurd (cc)

pub none_or_some : {X : Type 0} (option : Option X) (value : X) → option ≡ None → option ≡ Some value → ⊥
none_or_some option value none some = none_not_some value (sym none ∙ some)

pub same_head : {X : Type 0} {one other : X} {behind others : List X} → one ∷ behind ≡ other ∷ others → one ≡ other
same_head same = cc

pub same_rest : {X : Type 0} {one other : X} {behind others : List X} → one ∷ behind ≡ other ∷ others → behind ≡ others
same_rest same = cc

pub not_empty : {X : Type 0} {one : X} {behind : List X} → ◌≡◌ {A = List X} [] (one ∷ behind) → ⊥
not_empty same = absurd (cc)

-- ---- expiries

expired_once : (moment : ℕ) (store after its_after : Store) (ended others : List EndedSession) → Expires moment store ended after → Expires moment store others its_after
    → ended ≡ others
expired_once moment store after its_after [] [] one other = refl
expired_once moment store after its_after [] (session ∷ others) one other = absurd (none_or_some (expiring moment store) session one.0 other.0)
expired_once moment store after its_after (session ∷ ended) [] one other = absurd (none_or_some (expiring moment store) session other.0 one.0)
expired_once moment store after its_after (session ∷ ended) (its_session ∷ others) one other =
    let first : session ≡ its_session = some_is (sym one.0 ∙ other.0) in
    let rest = expired_once moment (left_by_expiry moment store) after its_after ended others one.1 other.1 in
    λ i. first i ∷ rest i

-- a list of notifications is not empty where there is a listener
told_some : (number count : ℕ) → count ≢ 0 → told (SessionDestroyed number) count ≡ [] → ⊥
unfolding told
told_some number count some none =
    some
    (sym (length-range_with_len 0 count) ∙ sym (length-reverse (range_with_len 0 count))
    ∙ sym (length-map (reverse (range_with_len 0 count)) (λ place. OfListener place (SessionDestroyed number))) ∙ ap length none)

front_some : {X : Type 0} (front back : List X) → front ++ back ≡ [] → front ≡ []
front_some [] back none = refl
front_some (one ∷ front) back none = absurd (cc)

back_some : {X : Type 0} (front back : List X) → front ++ back ≡ [] → back ≡ []
back_some [] back none = none
back_some (one ∷ front) back none = absurd (cc)

map_none : {X Y : Type 0} (f : X → Y) (xs : List X) → map f xs ≡ [] → xs ≡ []
map_none f [] none = refl
map_none f (x ∷ xs) none = absurd (cc)

module _ {S F L : Type 0} (moving : ComponentSteps S F L) where
  abbrev entries_from : ContextState S F L → List EndedSession → List Entry
  entries_from context ended = map (record_entry (world_of context unnoted)) (ends_told ended (length context.listeners))

  entries_once : (moment : ℕ) (expiries others : List (Expiry S F L))
      → map (λ (expiry : Expiry S F L). expiry.context) expiries ≡ map (λ (expiry : Expiry S F L). expiry.context) others
      → AllByRecursion (IsExpiry moving moment) expiries → AllByRecursion (IsExpiry moving moment) others
      → flat_map entries_of expiries ≡ flat_map entries_of others
  entries_once moment [] [] same one other = refl
  entries_once moment [] (its ∷ others) same one other = absurd (not_empty same)
  entries_once moment (expiry ∷ expiries) [] same one other = absurd (not_empty (sym same))
  entries_once moment (expiry ∷ expiries) (its ∷ others) same one other =
      let contexts : expiry.context ≡ its.context = same_head same in
      let ended : expiry.ended ≡ its.ended =
      expired_once moment expiry.context.store expiry.after.store its.after.store expiry.ended its.ended one.0.ends
      (subst (λ (context : ContextState S F L). Expires moment context.store its.ended its.after.store) (sym contexts) other.0.ends) in
      let rest = entries_once moment expiries others (same_rest same) one.1 other.1 in
      λ i. entries_from (contexts i) (ended i) ++ rest i

  -- the context at a place has no session to end if nothing is notified
  silent_at : (moment place : ℕ) (expiries : List (Expiry S F L)) (context : ContextState S F L) → AllByRecursion (IsExpiry moving moment) expiries
      → flat_map entries_of expiries ≡ [] → slice_get (map (λ (expiry : Expiry S F L). expiry.context) expiries) place ≡ Some context
      → length context.listeners ≢ 0 → expiring moment context.store ≡ None
  silent_at moment place [] context each none there listens = absurd (none_or_some None context refl there)
  silent_at moment zero (expiry ∷ expiries) context each none there listens =
      let same : expiry.context ≡ context = some_is there in
      by_ended expiry.ended each.0.ends (map_none (record_entry (world_of expiry.context unnoted)) _ (front_some (entries_of expiry) (flat_map entries_of expiries) none)) same
    where
      by_ended : (ended : List EndedSession) → Expires moment expiry.context.store ended expiry.after.store → ends_told ended (length expiry.context.listeners) ≡ []
          → expiry.context ≡ context → expiring moment context.store ≡ None
      by_ended [] ends silent same = ap (λ (its : ContextState S F L). expiring moment its.store) (sym same) ∙ ends.0
      by_ended (session ∷ ended) ends silent same =
          absurd
          (told_some session.number (length expiry.context.listeners) (λ nobody. listens (ap (λ (its : ContextState S F L). length its.listeners) (sym same) ∙ nobody))
          (front_some (told (SessionDestroyed session.number) (length expiry.context.listeners)) _ (front_some _ _ silent)))
  silent_at moment (suc place) (expiry ∷ expiries) context each none there listens =
      silent_at moment place expiries context each.1 (back_some (entries_of expiry) (flat_map entries_of expiries) none) there listens

  module _ {Words : Type 0} (draws : Words → ℕ × ℕ → Words → Type 0) where
    abbrev Whole : Type 0
    Whole = State (ContextState S F L) Words

    -- the ends of sessions that a tick brings are all that it notes
    pub record Ticked (before : Whole) (moment : ℕ) (journal : List Entry) : Type 0 where
      pub expiries : List (Expiry S F L)
      pub contexts : before.world.contexts ≡ map (λ (expiry : Expiry S F L). expiry.context) expiries
      pub each : AllByRecursion (IsExpiry moving (moment_after before.moment (Tick moment))) expiries
      pub are : journal ≡ flat_map entries_of expiries

    pub ticked : (before after : Whole) (moment : ℕ) (effect : Effect (ContextState S F L)) (transitions : List (Transition S F L))
        → IsLawfulEvent moving draws before (Tick moment) effect transitions after → Ticked before moment effect.journal
    ticked before after moment effect transitions lawful =
        let are : transitions ≡ Expiries after.moment lawful.expiries ∷ [] =
        lawful.are ∙ ap (λ brought. Expiries after.moment lawful.expiries ∷ brought) lawful.brings.0 in
        let leads = subst (λ its. LeadsThrough moving before.world.contexts its after.world.contexts) are lawful.leads in
        record {
          expiries = lawful.expiries;
          contexts = leads.1.before_are;
          each = subst (λ when. AllByRecursion (IsExpiry moving when) lawful.expiries) lawful.time leads.1.each;
          are =
              ap (λ (effect : Effect (ContextState S F L)). effect.journal) (lawful.effect_is ∙ ap effect_of_all are)
              ∙ append-nil (flat_map entries_of lawful.expiries);
        }

    pub ticks_notify_only_of_expiries : TicksNotifyOnlyOfExpiries moving draws
    ticks_notify_only_of_expiries before after effect transitions moment lawful =
        let own = ticked before after moment effect transitions lawful in
        let now = moment_after before.moment (Tick moment) in
        record {
          told = λ expired silent.
              none_or_some (expiring now expired.context.store) expired.session
              (silent_at now expired.place own.expiries expired.context own.each (sym own.are ∙ silent)
              (ap (λ contexts. slice_get contexts expired.place) (sym own.contexts) ∙ expired.there) expired.listens)
              expired.ends;
          other_notifications = λ journal apart others its_after its.
              let other = ticked before its_after moment (record effect { journal = journal }) others its in
              apart (other.are ∙ entries_once now other.expiries own.expiries (sym other.contexts ∙ own.contexts) other.each own.each ∙ sym own.are);
        }

    -- the ends of sessions that an event brings are what it notes first
    pub record ExpiresFirst (before : Whole) (now : ℕ) (journal : List Entry) : Type 0 where
      pub expiries : List (Expiry S F L)
      pub contexts : before.world.contexts ≡ map (λ (expiry : Expiry S F L). expiry.context) expiries
      pub each : AllByRecursion (IsExpiry moving now) expiries
      pub behind : List Entry
      pub are : journal ≡ flat_map entries_of expiries ++ behind

    pub expires_first : (before after : Whole) (happening : Happening) (effect : Effect (ContextState S F L)) (transitions : List (Transition S F L))
        → IsLawfulEvent moving draws before happening effect transitions after
        → ExpiresFirst before (moment_after before.moment happening) effect.journal
    expires_first before after happening effect transitions lawful =
        let leads = subst (λ its. LeadsThrough moving before.world.contexts its after.world.contexts) lawful.are lawful.leads in
        record {
          expiries = lawful.expiries;
          contexts = leads.1.before_are;
          each = subst (λ when. AllByRecursion (IsExpiry moving when) lawful.expiries) lawful.time leads.1.each;
          behind = (effect_of_all lawful.brought).journal;
          are = ap (λ (effect : Effect (ContextState S F L)). effect.journal) (lawful.effect_is ∙ ap effect_of_all lawful.are);
        }

    pub events_notify_of_expiries_first : EventsNotifyOfExpiriesFirst moving draws
    events_notify_of_expiries_first before after happening effect transitions lawful =
        let own = expires_first before after happening effect transitions lawful in
        let now = moment_after before.moment happening in
        record {
          told = flat_map entries_of own.expiries;
          some = λ expired silent.
              none_or_some (expiring now expired.context.store) expired.session
              (silent_at now expired.place own.expiries expired.context own.each silent
              (ap (λ contexts. slice_get contexts expired.place) (sym own.contexts) ∙ expired.there) expired.listens)
              expired.ends;
          behind = own.behind;
          begins = own.are;
          another_beginning = λ journal apart others its_after its.
              let other = expires_first before its_after happening (record effect { journal = journal }) others its in
              apart other.behind
              (other.are
              ∙ ap (λ front. front ++ other.behind) (entries_once now other.expiries own.expiries (sym other.contexts ∙ own.contexts) other.each own.each));
        }

    pub told_is : (before after : Whole) (happening : Happening) (effect : Effect (ContextState S F L)) (transitions : List (Transition S F L))
        (lawful : IsLawfulEvent moving draws before happening effect transitions after)
        → (events_notify_of_expiries_first before after happening effect transitions lawful).told
        ≡ flat_map entries_of (expires_first before after happening effect transitions lawful).expiries
    unfolding events_notify_of_expiries_first
    told_is before after happening effect transitions lawful = refl

    -- ---- messages

    module _ (cuts : FeedingsMayBeCut) (unique : ReadingsAreUnique) where
      fed_once : (held left its_left : Held) (bytes : List ℕ) (items others : List Item) → Feeds held bytes items left → Feeds held bytes others its_left → items ≡ others
      fed_once held left its_left bytes items others = by_spent held.spent
        where
          by_spent : (spent : Bool)
              → MatchBool spent ((items ≡ []) × (left ≡ held)) (Reads held.owed (held.rest ++ bytes) items left.owed left.rest × (left.spent ≡ are_ended items))
              → MatchBool spent ((others ≡ []) × (its_left ≡ held)) (Reads held.owed (held.rest ++ bytes) others its_left.owed its_left.rest × (its_left.spent ≡ are_ended others))
              → items ≡ others
          by_spent true one other = one.0 ∙ sym other.0
          by_spent false one other =
              (unique held.owed (held.rest ++ bytes) items others left.owed left.rest its_left.owed its_left.rest one.0 other.0).0

      -- what is read of a piece up to a closing begins as what is read of all of it
      pub record ReadsAlike (closes : Bool) (items others : List Item) : Type 0 where
        pub front : List Item
        pub more : List Item
        pub are : items ≡ front ++ more
        pub others_are : others ≡ front
        pub all_read : closes ≡ false → more ≡ []

      pub read_alike : (closes : Bool) (held left its_left : Held) (piece : List ℕ) (items others : List Item) → Feeds held piece items left
          → FeedsWhere closes held piece others its_left → ReadsAlike closes items others
      read_alike true held left its_left piece items others feeds where_to =
          let parts = (cuts held left where_to.part where_to.unread items).0 (subst (λ bytes. Feeds held bytes items left) where_to.is_piece feeds) in
          record {
            front = parts.0;
            more = parts.1;
            are = parts.5;
            others_are = fed_once held where_to.left parts.2 where_to.part others parts.0 where_to.feeds parts.3;
            all_read = λ same. absurd (cc);
          }
      read_alike false held left its_left piece items others feeds where_to =
          let whole : piece ≡ where_to.part = where_to.is_piece ∙ ap (λ rest. where_to.part ++ rest) (where_to.is_all refl) ∙ append-nil where_to.part in
          record {
            front = items;
            more = [];
            are = sym (append-nil items);
            others_are =
                fed_once held where_to.left left piece others items (subst (λ bytes. Feeds held bytes others where_to.left) (sym whole) where_to.feeds) feeds;
            all_read = λ same. refl;
          }

      module _ (before : Whole) where
        abbrev goes_to : Target → Destination
        goes_to = destination (theory moving draws) before.world.contexts

        -- the transition of the message comes first among those that the piece brings
        record AnsweredFirst (moment : ℕ) (message : MessageRecord) (items : List Item) (transitions : List (Transition S F L)) : Type 0 where
          pub transition : Transition S F L
          pub others : List (Transition S F L)
          pub are : transitions ≡ transition ∷ others
          pub words : ℕ × ℕ
          pub answers : Answers draws goes_to moment (goes_to message.target) message words transition
          pub alone : items ≡ [] → others ≡ []

        alone_behind : (moment : ℕ) (closes : Bool) (items : List Item) (between after : Words) (others : List (Transition S F L)) → items ≡ []
            → MatchBool closes ((others ≡ []) × (after ≡ between)) (AreOf draws goes_to moment items between others after) → others ≡ []
        alone_behind moment true items between after others none behind = behind.0
        alone_behind moment false [] between after others none behind = behind.0
        alone_behind moment false (item ∷ items) between after others none behind = absurd (not_empty (sym none))

        by_items : (moment : ℕ) (message : MessageRecord) (items read front more : List Item) (words words_after : Words) (transitions : List (Transition S F L))
            → Message message ∷ items ≡ front ++ more → read ≡ front → ((effect_of_all transitions).closes ≡ false → more ≡ [])
            → AreOf draws goes_to moment read words transitions words_after → AnsweredFirst moment message items transitions
        by_items moment message items [] [] more words words_after transitions are same all brought =
            let none : more ≡ [] = all (ap (λ its. (effect_of_all its).closes) brought.0) in
            absurd (not_empty (sym (are ∙ none)))
        by_items moment message items [] (one ∷ front) more words words_after transitions are same all brought = absurd (not_empty same)
        by_items moment message items (item ∷ read) [] more words words_after transitions are same all brought = absurd (not_empty (sym same))
        by_items moment message items (item ∷ read) (one ∷ front) more words words_after transitions are same all brought =
            let is : item ≡ Message message = same_head same ∙ sym (same_head are) in
            let answered = subst (λ its. IsOf draws goes_to moment its words brought.0 brought.2) is brought.4 in
            record {
              transition = brought.0;
              others = brought.1;
              are = brought.3;
              words = answered.0;
              answers = answered.2;
              alone = λ none.
                  alone_behind moment (effect_of brought.0).closes read brought.2 words_after brought.1
                  (same_rest same ∙ front_some front more (sym (same_rest are) ∙ none)) brought.5;
            }

        answered_first : (after : Whole) (number : ℕ) (piece : List ℕ) (moment : ℕ) (message : MessageRecord) (items : List Item) (effect : Effect (ContextState S F L))
            (transitions : List (Transition S F L)) → BeginsWith moving draws before effect number piece message items
            → (lawful : IsLawfulEvent moving draws before (Piece number piece moment) effect transitions after)
            → AnsweredFirst after.moment message items lawful.brought
        answered_first after number piece moment message items effect transitions begins lawful =
            let brings = lawful.brings in
            let same : brings.held ≡ begins.held = some_is (sym brings.holds ∙ begins.holds) in
            let alike = read_alike (effect_of_all lawful.brought).closes begins.held begins.left brings.left piece (Message message ∷ items) brings.items begins.feeds
            (subst (λ held. FeedsWhere (effect_of_all lawful.brought).closes held piece brings.items brings.left) same brings.feeds) in
            by_items after.moment message items brings.items alike.front alike.more before.world.words after.world.words lawful.brought alike.are alike.others_are alike.all_read
            brings.are

        -- ---- the deed of a message

        record DeedFirst (message : MessageRecord) (effect : Effect (ContextState S F L)) : Type 0 where
          pub deed : Deed (ContextState S F L)
          pub others : List (Deed (ContextState S F L))
          pub deeds : effect.deeds ≡ deed ∷ others
          pub is_deed : (its_effect : Effect (ContextState S F L)) → IsDeedOf moving draws before its_effect message deed

        deed_by : (moment : ℕ) (message : MessageRecord) (words : ℕ × ℕ) (to : Destination) (transition : Transition S F L) → goes_to message.target ≡ to
            → Answers draws goes_to moment to message words transition
            → (deed : Deed (ContextState S F L)) × ((effect_of transition).deeds ≡ deed ∷ [])
            × ((its_effect : Effect (ContextState S F L)) → IsDeedOf moving draws before its_effect message deed)
        deed_by moment message words (Itself entry response) transition is answers = (
          Answered entry,
          ap (λ its. (effect_of its).deeds) answers.2,
          λ its_effect. (response, is),
        )
        deed_by moment message words (Within place canon) transition is answers = (
          Handled place answers.0,
          ap (λ its. (effect_of its).deeds) answers.5,
          λ its_effect. ap (λ (request : Request). request.message) answers.3,
        )

        deed_first : (after : Whole) (number : ℕ) (piece : List ℕ) (moment : ℕ) (message : MessageRecord) (items : List Item) (effect : Effect (ContextState S F L))
            (transitions : List (Transition S F L)) → BeginsWith moving draws before effect number piece message items
            → IsLawfulEvent moving draws before (Piece number piece moment) effect transitions after → DeedFirst message effect
        deed_first after number piece moment message items effect transitions begins lawful =
            let first = answered_first after number piece moment message items effect transitions begins lawful in
            let its = deed_by after.moment message first.words (goes_to message.target) first.transition refl first.answers in
            record {
              deed = its.0;
              others = (effect_of_all first.others).deeds;
              deeds =
                  ap (λ (effect : Effect (ContextState S F L)). effect.deeds) (lawful.effect_is ∙ ap effect_of_all lawful.are)
                  ∙ ap (λ brought. (effect_of_all brought).deeds) first.are
                  ∙ ap (λ deeds. deeds ++ (effect_of_all first.others).deeds) its.1;
              is_deed = its.2;
            }

        -- the container's own answers are no refusals of bytes
        own_entry : (place_for : List ℕ → Option ℕ) (target : Target) (fault : WireFault) (response : Response)
            → destination_of place_for target ≡ Itself (entries.Refused (causes.Wire fault)) response → ⊥
        own_entry place_for Star fault response is = absurd (cc)
        own_entry place_for (Path target) fault response is = by_read (canonical target) is
          where
            by_place : (canon : Canon) (place : Option ℕ) → destination_in canon place ≡ Itself (entries.Refused (causes.Wire fault)) response → ⊥
            by_place canon None is = absurd (cc)
            by_place canon (Some place) is = absurd (cc)

            by_read : (read : Result Canon PathFault) → destination_at place_for read ≡ Itself (entries.Refused (causes.Wire fault)) response → ⊥
            by_read (Err other) is = absurd (cc)
            by_read (Ok canon) is = by_place canon (place_for canon.path) is

        no_refusal : (effect : Effect (ContextState S F L)) (message : MessageRecord) (fault : WireFault)
            (deed : Deed (ContextState S F L)) → Answered (entries.Refused (causes.Wire fault)) ≡ deed
            → IsDeedOf moving draws before effect message deed → ⊥
        no_refusal effect message fault (Handled place handling) same is = absurd (cc)
        no_refusal effect message fault (Answered entry) same is =
            let entry_is : entry ≡ entries.Refused (causes.Wire fault) = cc in
            own_entry _ message.target fault is.0 (is.1 ∙ ap (λ its. Itself its is.0) entry_is)

        pub swallows_none : (after : Whole) (effect : Effect (ContextState S F L)) (transitions : List (Transition S F L)) (number : ℕ) (piece : List ℕ) (moment : ℕ)
            (message : MessageRecord) (items : List Item) → BeginsWith moving draws before (record effect { deeds = [] }) number piece message items
            → ¬ (IsLawfulEvent moving draws before (Piece number piece moment) (record effect { deeds = [] }) transitions after)
        swallows_none after effect transitions number piece moment message items begins lawful =
            not_empty (deed_first after number piece moment message items (record effect { deeds = [] }) transitions begins lawful).deeds

        pub refuses_none : (after : Whole) (effect : Effect (ContextState S F L)) (transitions : List (Transition S F L)) (number : ℕ) (piece : List ℕ) (moment : ℕ)
            (message : MessageRecord) (items : List Item) (fault : WireFault) (deeds : List (Deed (ContextState S F L)))
            → BeginsWith moving draws before (record effect { deeds = Answered (entries.Refused (causes.Wire fault)) ∷ deeds }) number piece message items
            → ¬ (IsLawfulEvent moving draws before (Piece number piece moment) (record effect { deeds = Answered (entries.Refused (causes.Wire fault)) ∷ deeds })
            transitions after)
        refuses_none after effect transitions number piece moment message items fault deeds begins lawful =
            let its_effect = record effect { deeds = Answered (entries.Refused (causes.Wire fault)) ∷ deeds } in
            let first = deed_first after number piece moment message items its_effect transitions begins lawful in
            no_refusal effect message fault first.deed (same_head first.deeds) (first.is_deed effect)

        answers_it : (after : Whole) (effect : Effect (ContextState S F L)) (transitions : List (Transition S F L)) (number : ℕ) (piece : List ℕ) (moment : ℕ)
            (message : MessageRecord) (items : List Item) → BeginsWith moving draws before effect number piece message items
            → IsLawfulEvent moving draws before (Piece number piece moment) effect transitions after
            → AnswersTheMessage moving draws before effect number piece moment message
        answers_it after effect transitions number piece moment message items begins lawful =
            let own = deed_first after number piece moment message items effect transitions begins lawful in
            record {
              deed = own.deed;
              others = own.others;
              deeds = own.deeds;
              is_deed = own.is_deed effect;
              swallowed = λ others its_after its.
                  swallows_none its_after effect others number piece moment message items
                  (record { held = begins.held; holds = begins.holds; left = begins.left; feeds = begins.feeds }) its;
              refused = λ fault deeds others its_after its.
                  refuses_none its_after effect others number piece moment message items fault deeds
                  (record { held = begins.held; holds = begins.holds; left = begins.left; feeds = begins.feeds }) its;
            }

        -- ---- the response to a message

        sent_by : (moment : ℕ) (message : MessageRecord) (words : ℕ × ℕ) (to : Destination) (transition : Transition S F L) (place : ℕ)
            (handling : Handling (ContextState S F L)) → Answers draws goes_to moment to message words transition
            → (effect_of transition).deeds ≡ Handled place handling ∷ [] → IsAnswerTo message moment handling.response (effect_of transition).sends
        sent_by moment message words (Itself entry response) transition place handling answers deeds =
            absurd (apart (same_head (sym (ap (λ its. (effect_of its).deeds) answers.2) ∙ deeds)))
          where
            apart : Answered entry ≡ Handled place handling → ⊥
            apart same = absurd (cc)
        sent_by moment message words (Within at canon) transition place handling answers deeds =
            let same : answers.0 ≡ handling = handled_is (same_head (sym (ap (λ its. (effect_of its).deeds) answers.5) ∙ deeds)) in
            subst (IsAnswerTo message moment handling.response) (sym (ap (λ its. (effect_of its).sends) answers.5))
            (subst (λ (its : Handling (ContextState S F L)). IsAnswerTo message moment its.response answers.2) same answers.4)
          where
            handled_is : {one other : Handling (ContextState S F L)} → Handled at one ≡ Handled place other → one ≡ other
            handled_is same = cc

        pub sent : (after : Whole) (number : ℕ) (piece : List ℕ) (moment : ℕ) (message : MessageRecord) (place : ℕ) (handling : Handling (ContextState S F L))
            (effect : Effect (ContextState S F L)) (transitions : List (Transition S F L))
            → BeginsWith moving draws before effect number piece message [] → effect.deeds ≡ Handled place handling ∷ []
            → IsLawfulEvent moving draws before (Piece number piece moment) effect transitions after
            → IsAnswerTo message (moment_after before.moment (Piece number piece moment)) handling.response effect.sends
        sent after number piece moment message place handling effect transitions begins deeds lawful =
            let first = answered_first after number piece moment message [] effect transitions begins lawful in
            let brought : lawful.brought ≡ first.transition ∷ [] = first.are ∙ ap (λ others. first.transition ∷ others) (first.alone refl) in
            let effect_is = lawful.effect_is ∙ ap effect_of_all (lawful.are ∙ ap (λ its. Expiries after.moment lawful.expiries ∷ its) brought) in
            let its_deeds : (effect_of first.transition).deeds ≡ Handled place handling ∷ [] =
            sym (append-nil (effect_of first.transition).deeds) ∙ sym (ap (λ (its : Effect (ContextState S F L)). its.deeds) effect_is) ∙ deeds in
            let its_sends : effect.sends ≡ (effect_of first.transition).sends =
            ap (λ (its : Effect (ContextState S F L)). its.sends) effect_is ∙ append-nil (effect_of first.transition).sends in
            subst (IsAnswerTo message (moment_after before.moment (Piece number piece moment)) handling.response) (sym its_sends)
            (subst (λ when. IsAnswerTo message when handling.response (effect_of first.transition).sends) lawful.time
            (sent_by after.moment message first.words (goes_to message.target) first.transition place handling first.answers its_deeds))

        sends_it : (after : Whole) (effect : Effect (ContextState S F L)) (transitions : List (Transition S F L)) (number : ℕ) (piece : List ℕ) (moment : ℕ)
            (message : MessageRecord) (place : ℕ) (handling : Handling (ContextState S F L))
            → BeginsWith moving draws before effect number piece message [] → effect.deeds ≡ Handled place handling ∷ []
            → IsLawfulEvent moving draws before (Piece number piece moment) effect transitions after
            → SendsItsResponse moving draws before effect number piece moment message handling.response
        sends_it after effect transitions number piece moment message place handling begins deeds lawful = record {
          sends = sent after number piece moment message place handling effect transitions begins deeds lawful;
          another_response = λ sends apart others its_after its.
              apart
              (sent its_after number piece moment message place handling (record effect { sends = sends }) others
              (record { held = begins.held; holds = begins.holds; left = begins.left; feeds = begins.feeds }) deeds its);
        }

      pub messages_are_answered : MessagesAreAnswered moving draws
      messages_are_answered before after effect transitions number piece moment message items begins lawful =
          answers_it before after effect transitions number piece moment message items begins lawful

      pub responses_are_of_their_request : ResponsesAreOfTheirRequest moving draws
      responses_are_of_their_request before after effect transitions number piece moment message place handling begins deeds lawful =
          sends_it before after effect transitions number piece moment message place handling begins deeds lawful
