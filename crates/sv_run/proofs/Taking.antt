-- Items that are handled one after another, and the end of sessions.
use Rattle.std.proofs.Common.{◌≡◌, ℕ, zero, suc, Bool, true, false, ◌||◌, List, [], ◌∷◌, ◌++◌, Some, refl, sym, ap, ◌∙◌, subst, slice_get, slice_set}
use Rattle.std.specs.Bool.{MatchBool}
use Rattle.sv_wire.proofs.BoolLemmas.{MatchBool-from_true, MatchBool-from_false}
use Rattle.sv_journal.specs.declared.entry.Entry.{Entry}
use Rattle.sv_run.specs.Contexts.{Handling, HasNoneExpired, Request, Theory}
use Rattle.sv_run.specs.Effect.{Effect, nothing, joined}
use Rattle.sv_run.specs.Events.{ExpiresAll}
use Rattle.sv_run.specs.Items.{HandlesAt, Responds, Takes, TakesItem, TakesNone}
use Rattle.sv_run.specs.Lawful.{AreSettled, EndsExpired}
use Rattle.sv_run.specs.Messages.{Destination, Itself, Within, destination}
use Rattle.sv_run.specs.State.{World}
use Rattle.sv_run.proofs.Effects.{joined-assoc, joined-nothing}
use Rattle.sv_wire.specs.declared.item.Item.{Item}
use Rattle.sv_wire.specs.declared.item.Item.TheVariants.{Continue, Message, Refuse}
use Rattle.sv_message.specs.declared.message.Message.{Message as MessageRecord}

-- case analysis on a Boolean
pub either : {A B P : Type 0} (t : Bool) → MatchBool t A B → (A → P) → (B → P) → P
either true holds first second = first holds
either false holds first second = second holds

module _ {Context Words : Type 0} (theory : Theory Context Words) where
  -- ---- the end of expired sessions

  pub settled_stay : EndsExpired theory → (contexts : List Context) (moment : ℕ) → AreSettled theory moment contexts
      → ExpiresAll theory.conduct contexts moment [] contexts
  settled_stay ends [] moment settled = (refl, refl)
  settled_stay ends (context ∷ contexts) moment settled =
      ([], [], context, contexts, ends.stays context moment settled.0, settled_stay ends contexts moment settled.1, refl, refl)

  pub settled_only : EndsExpired theory → (contexts after : List Context) (moment : ℕ) (told : List Entry) → AreSettled theory moment contexts
      → ExpiresAll theory.conduct contexts moment told after → (told ≡ []) × (after ≡ contexts)
  settled_only ends [] after moment told settled expires = expires
  settled_only ends (context ∷ contexts) after moment told settled expires =
      let first = ends.ends_nothing context expires.2 moment expires.0 settled.0 expires.4 in
      let others = settled_only ends contexts expires.3 moment expires.1 settled.1 expires.5 in
      (expires.6 ∙ (λ i. first.0 i ++ others.0 i), expires.7 ∙ (λ i. first.1 i ∷ others.1 i))

  pub expiring_settles : EndsExpired theory → (contexts after : List Context) (moment : ℕ) (told : List Entry)
      → ExpiresAll theory.conduct contexts moment told after → AreSettled theory moment after
  expiring_settles ends [] after moment told expires = subst (λ cs. AreSettled theory moment cs) (sym expires.1) tt
  expiring_settles ends (context ∷ contexts) after moment told expires =
      subst (λ cs. AreSettled theory moment cs) (sym expires.7)
      (ends.settles context expires.2 moment expires.0 expires.4, expiring_settles ends contexts expires.3 moment expires.1 expires.5)

  module _ (moment : ℕ) where
    -- ---- items one after another

    -- after an item that closes the connection no item is handled; after any other item the rest are
    abbrev pub TakesBehind : Bool → List Item → World Context Words → Effect Context → World Context Words → Type 0
    TakesBehind closes items before effect after = MatchBool closes (TakesNone theory moment before effect after) (Takes theory moment items before effect after)

    -- the first items are handled, and then the others
    pub record TakesInParts (items more : List Item) (before : World Context Words) (effect : Effect Context) (after : World Context Words) : Type 0 where
      pub between : World Context Words
      pub front : Effect Context
      pub back : Effect Context
      pub begins : Takes theory moment items before front between
      pub goes_on : TakesBehind front.closes more between back after
      pub is_joined : effect ≡ joined front back

    pub takes_in_parts : (items more : List Item) (before after : World Context Words) (effect : Effect Context)
        → Takes theory moment (items ++ more) before effect after → TakesInParts items more before effect after
    takes_in_parts [] more before after effect takes =
        record { between = before; front = nothing; back = effect; begins = (refl, refl); goes_on = takes; is_joined = refl }
    takes_in_parts (item ∷ items) more before after effect takes =
        by_first takes.1.closes refl takes.4 (takes_in_parts items more takes.0 after takes.2)
      where
        by_first : (t : Bool) → takes.1.closes ≡ t → TakesBehind t (items ++ more) takes.0 takes.2 after
            → (Takes theory moment (items ++ more) takes.0 takes.2 after → TakesInParts items more takes.0 takes.2 after)
            → TakesInParts (item ∷ items) more before effect after
        by_first true closes none cut =
            record {
              between = after;
              front = joined takes.1 takes.2;
              back = nothing;
              begins = (takes.0, takes.1, takes.2, takes.3, MatchBool-from_true takes.1.closes _ _ closes none, refl);
              goes_on = MatchBool-from_true (takes.1.closes || takes.2.closes) _ _ (ap (λ t. t || takes.2.closes) closes) (refl, refl);
              is_joined = takes.5 ∙ sym (joined-nothing (joined takes.1 takes.2));
            }
        by_first false stays rest cut =
            let later = cut rest in
            record {
              between = later.between;
              front = joined takes.1 later.front;
              back = later.back;
              begins = (takes.0, takes.1, later.front, takes.3, MatchBool-from_false takes.1.closes _ _ stays later.begins, refl);
              goes_on = subst (λ t. TakesBehind (t || later.front.closes) more later.between later.back after) (sym stays) later.goes_on;
              is_joined = takes.5 ∙ ap (joined takes.1) later.is_joined ∙ sym (joined-assoc takes.1 later.front later.back);
            }

    pub takes_whole : (items more : List Item) (before between after : World Context Words) (front back : Effect Context)
        → Takes theory moment items before front between → TakesBehind front.closes more between back after
        → Takes theory moment (items ++ more) before (joined front back) after
    takes_whole [] more before between after front back begins goes_on =
        subst (λ r. Takes theory moment more before r after) (ap (λ r. joined r back) (sym begins.0))
        (subst (λ w. Takes theory moment more w back after) begins.1
        (subst (λ (r : Effect Context). TakesBehind r.closes more between back after) begins.0 goes_on))
    takes_whole (item ∷ items) more before between after front back begins goes_on =
        by_first begins.1.closes refl begins.4 (takes_whole items more begins.0 between after begins.2 back)
      where
        behind : (t : Bool) → begins.1.closes ≡ t → TakesBehind (t || begins.2.closes) more between back after
        behind t is =
            subst (λ u. TakesBehind (u || begins.2.closes) more between back after) is
            (subst (λ (r : Effect Context). TakesBehind r.closes more between back after) begins.5 goes_on)

        by_first : (t : Bool) → begins.1.closes ≡ t → TakesBehind t items begins.0 begins.2 between
            → (Takes theory moment items begins.0 begins.2 between → TakesBehind begins.2.closes more between back after
            → Takes theory moment (items ++ more) begins.0 (joined begins.2 back) after)
            → Takes theory moment (item ∷ items ++ more) before (joined front back) after
        by_first true closes none join = (
          begins.0,
          begins.1,
          joined begins.2 back,
          begins.3,
          MatchBool-from_true begins.1.closes _ _ closes
              ((λ i. joined (none.0 i) ((behind true closes).0 i)), (behind true closes).1 ∙ none.1),
          ap (λ r. joined r back) begins.5 ∙ joined-assoc begins.1 begins.2 back,
        )
        by_first false stays rest join = (
          begins.0,
          begins.1,
          joined begins.2 back,
          begins.3,
          MatchBool-from_false begins.1.closes _ _ stays (join rest (behind false stays)),
          ap (λ r. joined r back) begins.5 ∙ joined-assoc begins.1 begins.2 back,
        )

    -- ---- a message leaves no session that has expired at its time

    pub settled_there : (contexts : List Context) (place : ℕ) (context : Context) → slice_get contexts place ≡ Some context
        → AreSettled theory moment contexts → HasNoneExpired theory moment context
    settled_there [] place context there settled = absurd (cc)
    settled_there (first ∷ others) zero context there settled = subst (HasNoneExpired theory moment) (cc) settled.0
    settled_there (first ∷ others) (suc place) context there settled = settled_there others place context there settled.1

    pub settled_with : (contexts : List Context) (place : ℕ) (context : Context) → HasNoneExpired theory moment context
        → AreSettled theory moment contexts → AreSettled theory moment (slice_set contexts place context)
    settled_with [] place context none settled = tt
    settled_with (first ∷ others) zero context none settled = (none, settled.1)
    settled_with (first ∷ others) (suc place) context none settled = (settled.0, settled_with others place context none settled.1)

    handled_settled : EndsExpired theory → (place : ℕ) (before after : List Context) (handling : Handling Context)
        → handling.request.moment ≡ moment → HandlesAt theory moment place before handling after
        → AreSettled theory moment before → AreSettled theory moment after
    handled_settled ends place before after handling at handles settled =
        subst (λ cs. AreSettled theory moment cs) (sym handles.is_after)
        (settled_with before place handling.after
        (subst (λ m. HasNoneExpired theory m handling.after) at
        (ends.keeps handling handles.handles
        (subst (λ m. HasNoneExpired theory m handling.context) (sym at) (settled_there before place handling.context handles.there settled))))
        settled)

    responds_settled : EndsExpired theory → (to : Destination) (message : MessageRecord) (words : ℕ × ℕ) (before after : List Context) (effect : Effect Context)
        → Responds theory moment to message words before effect after
        → AreSettled theory moment before → AreSettled theory moment after
    responds_settled ends (Itself entry response) message words before after effect responds settled =
        subst (λ cs. AreSettled theory moment cs) (sym responds.3) settled
    responds_settled ends (Within place canon) message words before after effect responds settled =
        handled_settled ends place before after responds.0 (ap (λ (r : Request). r.moment) responds.2) responds.3 settled

    item_settled : EndsExpired theory → (item : Item) (before after : World Context Words) (effect : Effect Context)
        → TakesItem theory moment item before effect after
        → AreSettled theory moment before.contexts → AreSettled theory moment after.contexts
    item_settled ends Continue before after effect takes settled =
        subst (λ (w : World Context Words). AreSettled theory moment w.contexts) (sym takes.1) settled
    item_settled ends (Refuse fault) before after effect takes settled =
        subst (λ (w : World Context Words). AreSettled theory moment w.contexts) (sym takes.3) settled
    item_settled ends (Message message) before after effect takes settled =
        responds_settled ends (destination theory before.contexts message.target) message takes.0 before.contexts after.contexts effect takes.2 settled

    pub takes_settled : EndsExpired theory → (items : List Item) (before after : World Context Words) (effect : Effect Context)
        → Takes theory moment items before effect after
        → AreSettled theory moment before.contexts → AreSettled theory moment after.contexts
    takes_settled ends [] before after effect takes settled =
        subst (λ (w : World Context Words). AreSettled theory moment w.contexts) (sym takes.1) settled
    takes_settled ends (item ∷ items) before after effect takes settled =
        let first = item_settled ends item before takes.0 takes.1 takes.3 settled in
        either takes.1.closes takes.4
        (λ none. subst (λ (w : World Context Words). AreSettled theory moment w.contexts) (sym none.1) first)
        (λ rest. takes_settled ends items takes.0 after takes.2 rest first)
