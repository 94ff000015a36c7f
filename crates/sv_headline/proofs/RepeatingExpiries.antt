-- Lawful runs from one state that answer the same events alike come to contexts with the same sessions and as many listeners.
use Rattle.std.proofs.Common.{◌≡◌, ℕ, zero, suc, Bool, true, false, List, [], ◌∷◌, ◌++◌, map, length, Option, None, Some, Result, Ok, Err, refl, sym, ap, ◌∙◌, subst, slice_set}
use Rattle.std.specs.Bool.{MatchBool}
use Rattle.std.specs.List.{AllByRecursion, flat_map}
use Rattle.sv_component.specs.Runs.{OfListener, Record, record_entry}
use Rattle.sv_component.specs.Steps.{ComponentSteps}
use Rattle.sv_component.specs.World.{World}
use Rattle.sv_context.specs.Conduct.{unnoted}
use Rattle.sv_context.specs.Expiry.{ends_told}
use Rattle.sv_context.specs.State.{ContextState, world_of}
use Rattle.sv_context.specs.Theory.{theory}
use Rattle.sv_headline.proofs.Leading.{seen_same, some_is}
use Rattle.sv_headline.proofs.RefutingEvents.{none_or_some, not_empty, same_head, same_rest}
use Rattle.sv_headline.proofs.Repeating.{AgreesWith, event_once}
use Rattle.sv_headline.specs.Events.{Answers, AreOf, AreTransitionsOf, Brings, IsAnsweredBy, IsOf}
use Rattle.sv_headline.specs.Transitions.{Closing, ContextAnswer, Continuation, EditAnswer, Expiries, Expiry, IsExpiry, Leads, LeadsThrough, OwnAnswer, Refusal, Transition, effect_of, effect_of_all, entries_of, told_of, under}
use Rattle.sv_journal.specs.Entry.{heard}
use Rattle.sv_listeners.specs.Telling.{hearing_order, told}
use Rattle.sv_live.specs.SessionEnds.{all_told, end_events}
use Rattle.sv_message.specs.declared.message.Message.{Message as MessageRecord}
use Rattle.sv_message.specs.declared.message.Target.{Target}
use Rattle.sv_policy.specs.declared.edit.Edit.{Edit}
use Rattle.sv_policy.specs.declared.edit_fault.EditFault.{EditFault}
use Rattle.sv_run.specs.Effect.{Answered, Deed, Effect, Handled}
use Rattle.sv_run.specs.Events.{Edited, Ended, Happening, Lost, Opened, Piece, Tick}
use Rattle.sv_run.specs.Messages.{Destination, Itself, Within, destination}
use Rattle.sv_run.specs.Runs.{Answer}
use Rattle.sv_run.specs.State.{State}
use Rattle.sv_session.specs.Calls.{expiring, left_by_expiry}
use Rattle.sv_session.specs.Runs.{Expires}
use Rattle.sv_session.specs.Store.{Store}
use Rattle.sv_session.specs.declared.ended_sessions.EndedSession.{EndedSession}
use Rattle.sv_session.specs.declared.event.Event.{Event}
use Rattle.sv_wire.specs.Laws.{ReadingsAreUnique}
use Rattle.sv_wire.specs.declared.item.Item.{Item}
use Rattle.sv_wire.specs.declared.item.Item.TheVariants.{Continue, Message, Refuse}

-- what the ends of the expired sessions of a context depend on
pub record Seen : Type 0 where
  pub path : List ℕ
  pub store : Store
  pub listeners : ℕ

abbrev pub seen : {S F L : Type 0} → ContextState S F L → Seen
seen context = record { path = context.content.context_path; store = context.store; listeners = length context.listeners }

map_set : {X Y : Type 0} (f : X → Y) (xs : List X) (place : ℕ) (new : X) → map f (slice_set xs place new) ≡ slice_set (map f xs) place (f new)
map_set f [] place new = refl
map_set f (x ∷ xs) zero new = refl
map_set f (x ∷ xs) (suc place) new = ap (λ rest. f x ∷ rest) (map_set f xs place new)

-- ---- notifications

module _ {S F L : Type 0} (one other : World S F L) (same : one.context ≡ other.context) where
  abbrev Alike : List Record → Type 0
  Alike records = AllByRecursion (λ made. record_entry one made ≡ record_entry other made) records

  alike_join : (front back : List Record) → Alike front → Alike back → Alike (front ++ back)
  alike_join [] back first later = later
  alike_join (made ∷ front) back first later = (first.0, alike_join front back first.1 later)

  alike_flat : {X : Type 0} (f : X → List Record) → ((x : X) → Alike (f x)) → (xs : List X) → Alike (flat_map f xs)
  alike_flat f each [] = tt
  alike_flat f each (x ∷ xs) = alike_join (f x) (flat_map f xs) (each x) (alike_flat f each xs)

  alike_places : (event : Event) (places : List ℕ) → Alike (map (λ place. OfListener place event) places)
  alike_places event [] = tt
  alike_places event (place ∷ places) = (ap (λ path. heard path place event) same, alike_places event places)

  alike_told : (event : Event) (count : ℕ) → Alike (told event count)
  unfolding told
  alike_told event count = alike_places event (hearing_order event count)

  alike_ends : (ended : List EndedSession) (count : ℕ) → Alike (ends_told ended count)
  alike_ends ended count =
      alike_flat (λ session. all_told (end_events session) count)
      (λ session. alike_flat (λ event. told event count) (λ event. alike_told event count) (end_events session)) ended

  alike_entries : (records : List Record) → Alike records → map (record_entry one) records ≡ map (record_entry other) records
  alike_entries [] each = refl
  alike_entries (made ∷ records) each = λ i. each.0 i ∷ alike_entries records each.1 i

-- ---- expiries

expires_once : (moment : ℕ) (store after its_after : Store) (ended others : List EndedSession) → Expires moment store ended after
    → Expires moment store others its_after → (ended ≡ others) × (after ≡ its_after)
expires_once moment store after its_after [] [] one other = (refl, one.1 ∙ sym other.1)
expires_once moment store after its_after [] (session ∷ others) one other = absurd (none_or_some (expiring moment store) session one.0 other.0)
expires_once moment store after its_after (session ∷ ended) [] one other = absurd (none_or_some (expiring moment store) session other.0 one.0)
expires_once moment store after its_after (session ∷ ended) (its_session ∷ others) one other =
    let first : session ≡ its_session = some_is (sym one.0 ∙ other.0) in
    let rest = expires_once moment (left_by_expiry moment store) after its_after ended others one.1 other.1 in (
      λ i. first i ∷ rest.0 i,
      rest.1,
    )

module _ {S F L : Type 0} (moving : ComponentSteps S F L) where
  abbrev Contexts : Type 0
  Contexts = List (ContextState S F L)

  abbrev contexts_of : List (Expiry S F L) → Contexts
  contexts_of expiries = map (λ (expiry : Expiry S F L). expiry.context) expiries

  abbrev afters_of : List (Expiry S F L) → Contexts
  afters_of expiries = map (λ (expiry : Expiry S F L). expiry.after) expiries

  pub expired_alike : (moment : ℕ) (expiries others : List (Expiry S F L)) → map seen (contexts_of expiries) ≡ map seen (contexts_of others)
      → AllByRecursion (IsExpiry moving moment) expiries → AllByRecursion (IsExpiry moving moment) others
      → (flat_map entries_of expiries ≡ flat_map entries_of others) × (map seen (afters_of expiries) ≡ map seen (afters_of others))
  expired_alike moment [] [] same one other = (refl, refl)
  expired_alike moment [] (its ∷ others) same one other = absurd (not_empty same)
  expired_alike moment (expiry ∷ expiries) [] same one other = absurd (not_empty (sym same))
  expired_alike moment (expiry ∷ expiries) (its ∷ others) same one other =
      let alike : seen expiry.context ≡ seen its.context = same_head same in
      let path : expiry.context.content.context_path ≡ its.context.content.context_path = ap (λ (its : Seen). its.path) alike in
      let count : length expiry.context.listeners ≡ length its.context.listeners = ap (λ (its : Seen). its.listeners) alike in
      let once = expires_once moment expiry.context.store expiry.after.store its.after.store expiry.ended its.ended one.0.ends
      (subst (λ store. Expires moment store its.ended its.after.store) (sym (ap (λ (its : Seen). its.store) alike)) other.0.ends) in
      let first = world_of expiry.context unnoted in
      let second = world_of its.context unnoted in
      let entries : entries_of expiry ≡ entries_of its =
      alike_entries first second path (told_of expiry) (alike_ends first second path expiry.ended (length expiry.context.listeners))
      ∙ (λ i. map (record_entry second) (ends_told (once.0 i) (count i))) in
      let paths : expiry.after.content.context_path ≡ its.after.content.context_path =
      (λ i. (one.0.stays.content i).context_path) ∙ path ∙ sym (λ i. (other.0.stays.content i).context_path) in
      let counts : length expiry.after.listeners ≡ length its.after.listeners = one.0.stays.listeners ∙ count ∙ sym other.0.stays.listeners in
      let rest = expired_alike moment expiries others (same_rest same) one.1 other.1 in (
        λ i. entries i ++ rest.0 i,
        λ i. record { path = paths i; store = once.1 i; listeners = counts i } ∷ rest.1 i,
      )

  -- ---- deeds

  abbrev seen_by : List (Deed (ContextState S F L)) → List Seen → List Seen
  seen_by [] views = views
  seen_by (Handled place handling ∷ deeds) views = seen_by deeds (slice_set views place (seen handling.after))
  seen_by (Answered entry ∷ deeds) views = seen_by deeds views

  abbrev ExpiresNone : Transition S F L → Type 0
  ExpiresNone (Expiries moment expiries) = ⊥
  ExpiresNone Continuation = Unit {0}
  ExpiresNone (Refusal fault text) = Unit {0}
  ExpiresNone (OwnAnswer message entry response text) = Unit {0}
  ExpiresNone (ContextAnswer place handling made text) = Unit {0}
  ExpiresNone (EditAnswer place edit answer) = Unit {0}
  ExpiresNone Closing = Unit {0}

  edited_seen : (place : Option ℕ) (edit : Edit) (answer : Result ℕ EditFault) (before after : Contexts) → Leads moving before (EditAnswer place edit answer) after
      → map seen after ≡ map seen before
  edited_seen None edit answer before after leads = ap (map seen) leads.1
  edited_seen (Some place) edit answer before after leads =
      ap (map seen) leads.is_after ∙ seen_same seen before place leads.context (under leads.constraints leads.context) leads.there refl

  through_seen : (before after : Contexts) (transitions : List (Transition S F L)) → AllByRecursion ExpiresNone transitions
      → LeadsThrough moving before transitions after → map seen after ≡ seen_by (effect_of_all transitions).deeds (map seen before)
  through_seen before after [] none leads = ap (map seen) leads
  through_seen before after (Expiries moment expiries ∷ others) none leads = absurd none.0
  through_seen before after (Continuation ∷ others) none leads =
      through_seen leads.0 after others none.1 leads.2 ∙ ap (λ contexts. seen_by (effect_of_all others).deeds (map seen contexts)) leads.1
  through_seen before after (Refusal fault text ∷ others) none leads =
      through_seen leads.0 after others none.1 leads.2 ∙ ap (λ contexts. seen_by (effect_of_all others).deeds (map seen contexts)) leads.1
  through_seen before after (OwnAnswer message entry response text ∷ others) none leads =
      through_seen leads.0 after others none.1 leads.2 ∙ ap (λ contexts. seen_by (effect_of_all others).deeds (map seen contexts)) leads.1
  through_seen before after (ContextAnswer place handling made text ∷ others) none leads =
      through_seen leads.0 after others none.1 leads.2
      ∙ ap (seen_by (effect_of_all others).deeds) (ap (map seen) leads.1.is_after ∙ map_set seen before place handling.after)
  through_seen before after (EditAnswer place edit answer ∷ others) none leads =
      through_seen leads.0 after others none.1 leads.2
      ∙ ap (seen_by (effect_of_all others).deeds) (edited_seen place edit answer before leads.0 leads.1)
  through_seen before after (Closing ∷ others) none leads =
      through_seen leads.0 after others none.1 leads.2 ∙ ap (λ contexts. seen_by (effect_of_all others).deeds (map seen contexts)) leads.1

  -- ---- what an event brings

  module _ {Words : Type 0} (draws : Words → ℕ × ℕ → Words → Type 0) where
    abbrev Whole : Type 0
    Whole = State (ContextState S F L) Words

    answer_none : (goes_to : Target → Destination) (moment : ℕ) (to : Destination) (message : MessageRecord) (words : ℕ × ℕ) (transition : Transition S F L)
        → Answers draws goes_to moment to message words transition → ExpiresNone transition
    answer_none goes_to moment (Itself entry response) message words transition answers = subst ExpiresNone (sym answers.2) tt
    answer_none goes_to moment (Within place canon) message words transition answers = subst ExpiresNone (sym answers.5) tt

    item_none : (goes_to : Target → Destination) (moment : ℕ) (item : Item) (before after : Words) (transition : Transition S F L)
        → IsOf draws goes_to moment item before transition after → ExpiresNone transition
    item_none goes_to moment Continue before after transition is = subst ExpiresNone (sym is.0) tt
    item_none goes_to moment (Refuse fault) before after transition is = subst ExpiresNone (sym is.2) tt
    item_none goes_to moment (Message message) before after transition is =
        answer_none goes_to moment (goes_to message.target) message is.0 transition is.2

    behind_none : (closes : Bool) (others : List (Transition S F L)) (A B : Type 0) → (A → AllByRecursion ExpiresNone others)
        → MatchBool closes ((others ≡ []) × B) A → AllByRecursion ExpiresNone others
    behind_none true others A B later behind = subst (AllByRecursion ExpiresNone) (sym behind.0) tt
    behind_none false others A B later behind = later behind

    items_none : (goes_to : Target → Destination) (moment : ℕ) (items : List Item) (before after : Words) (transitions : List (Transition S F L))
        → AreOf draws goes_to moment items before transitions after → AllByRecursion ExpiresNone transitions
    items_none goes_to moment [] before after transitions are = subst (AllByRecursion ExpiresNone) (sym are.0) tt
    items_none goes_to moment (item ∷ items) before after transitions are =
        subst (AllByRecursion ExpiresNone) (sym are.3) (
          item_none goes_to moment item before are.2 are.0 are.4,
          behind_none (effect_of are.0).closes are.1 (AreOf draws goes_to moment items are.2 are.1 after) (after ≡ are.2)
              (items_none goes_to moment items are.2 after are.1) are.5,
        )

    brought_none : (before after : Whole) (happening : Happening) (transitions : List (Transition S F L)) → Brings moving draws before happening transitions after
        → AllByRecursion ExpiresNone transitions
    brought_none before after (Opened number) transitions brings = subst (AllByRecursion ExpiresNone) (sym brings.0) tt
    brought_none before after (Piece number bytes moment) transitions brings =
        items_none (destination (theory moving draws) before.world.contexts) after.moment brings.items before.world.words after.world.words transitions brings.are
    brought_none before after (Ended number) transitions brings = subst (AllByRecursion ExpiresNone) (sym brings.0) (tt, tt)
    brought_none before after (Lost number) transitions brings = subst (AllByRecursion ExpiresNone) (sym brings.0) tt
    brought_none before after (Tick moment) transitions brings = subst (AllByRecursion ExpiresNone) (sym brings.0) tt
    brought_none before after (Edited path edit) transitions brings = subst (AllByRecursion ExpiresNone) (sym brings.1.0) (tt, tt)

    -- ---- events

    module _ (unique : ReadingsAreUnique) where
      event_seen : (one other after its_after : Whole) (happening : Happening) (answer : Answer (ContextState S F L)) (transitions others : List (Transition S F L))
          → AgreesWith moving draws after its_after → map seen one.world.contexts ≡ map seen other.world.contexts
          → IsAnsweredBy moving draws one happening answer transitions after → IsAnsweredBy moving draws other happening answer others its_after
          → map seen after.world.contexts ≡ map seen its_after.world.contexts
      event_seen one other after its_after happening (Ok effect) transitions others agrees same first later =
          let leads = subst (λ its. LeadsThrough moving one.world.contexts its after.world.contexts) first.are first.leads in
          let its_leads = subst (λ its. LeadsThrough moving other.world.contexts its its_after.world.contexts) later.are later.leads in
          let expired = expired_alike after.moment first.expiries later.expiries
          (ap (map seen) (sym leads.1.before_are) ∙ same ∙ ap (map seen) its_leads.1.before_are) leads.1.each
          (subst (λ when. AllByRecursion (IsExpiry moving when) later.expiries) (sym agrees.same_time) its_leads.1.each) in
          let between : map seen leads.0 ≡ map seen its_leads.0 =
          ap (map seen) leads.1.after_are ∙ expired.1 ∙ sym (ap (map seen) its_leads.1.after_are) in
          let deeds : (effect_of_all first.brought).deeds ≡ (effect_of_all later.brought).deeds =
          ap (λ (its : Effect (ContextState S F L)). its.deeds)
          (sym (first.effect_is ∙ ap effect_of_all first.are) ∙ later.effect_is ∙ ap effect_of_all later.are) in
          through_seen leads.0 after.world.contexts first.brought (brought_none one after happening first.brought first.brings) leads.2
          ∙ (λ i. seen_by (deeds i) (between i))
          ∙ sym (through_seen its_leads.0 its_after.world.contexts later.brought (brought_none other its_after happening later.brought later.brings) its_leads.2)
      event_seen one other after its_after happening (Err fault) transitions others agrees same first later =
          ap (λ (state : Whole). map seen state.world.contexts) first.stays ∙ same
          ∙ sym (ap (λ (state : Whole). map seen state.world.contexts) later.stays)

      pub events_seen : (one other after its_after : Whole) (happenings : List Happening) (answers : List (Answer (ContextState S F L)))
          (transitions others : List (Transition S F L)) → AgreesWith moving draws one other → map seen one.world.contexts ≡ map seen other.world.contexts
          → AreTransitionsOf moving draws one happenings answers transitions after → AreTransitionsOf moving draws other happenings answers others its_after
          → map seen after.world.contexts ≡ map seen its_after.world.contexts
      events_seen one other after its_after [] [] transitions others agrees same first later =
          ap (λ (state : Whole). map seen state.world.contexts) first.1 ∙ same
          ∙ sym (ap (λ (state : Whole). map seen state.world.contexts) later.1)
      events_seen one other after its_after [] (answer ∷ answers) transitions others agrees same first later = absurd first
      events_seen one other after its_after (happening ∷ happenings) [] transitions others agrees same first later = absurd first
      events_seen one other after its_after (happening ∷ happenings) (answer ∷ answers) transitions others agrees same first later =
          let next = event_once moving draws unique one other first.2 later.2 happening answer first.0 later.0 agrees first.3 later.3 in
          events_seen first.2 later.2 after its_after happenings answers first.1 later.1 next
          (event_seen one other first.2 later.2 happening answer first.0 later.0 next same first.3 later.3) first.4 later.4
