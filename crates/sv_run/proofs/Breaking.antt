-- The unchanged parts of contexts after an event that ran out of memory: of contexts that were given no request, or
-- none that touches the part.
use Rattle.std.proofs.Common.{◌≡◌, ◌≢◌, ℕ, zero, suc, Bool, true, false, inl, inr, List, [], ◌∷◌, ◌++◌, map, Option, Some, refl, sym, ap, ◌∙◌, subst, slice_get, slice_set}
use Rattle.std.specs.List.{AllByRecursion}
use Rattle.std.proofs.lemmas.List.{map-id}
use Rattle.std.proofs.lemmas.List.Concat.{flat_map-append}
use Rattle.sv_journal.specs.declared.entry.Entry.{Entry}
use Rattle.sv_run.specs.Breaking.{BreaksAnswer, BreaksAt, BreaksItem, BreaksItems, DoesNothing, Given, IsLeftBy, given_for, given_for_all}
use Rattle.sv_run.specs.Contexts.{Handling, Request, Theory}
use Rattle.sv_run.specs.Effect.{Deed, Effect}
use Rattle.sv_run.specs.Events.{Breaks, BreaksOff, Edited, Ended, ExpiresAll, Happening, Lost, Opened, Piece, Tick}
use Rattle.sv_run.specs.Items.{Responds, Takes, TakesItem}
use Rattle.sv_run.specs.Laws.{OthersStay}
use Rattle.sv_run.specs.Messages.{Destination, Itself, Within, destination}
use Rattle.sv_run.specs.State.{State, World}
use Rattle.sv_run.proofs.Taking.{either}
use Rattle.sv_wire.specs.declared.item.Item.{Item}
use Rattle.sv_wire.specs.declared.item.Item.TheVariants.{Continue, Message, Refuse}
use Rattle.sv_message.specs.declared.message.Message.{Message as MessageRecord}

pub all_parts : {X : Type 0} (P : X → Type 0) (xs ys : List X) → AllByRecursion P (xs ++ ys) → AllByRecursion P xs × AllByRecursion P ys
all_parts P [] ys all = (tt, all)
all_parts P (x ∷ xs) ys all = let rest = all_parts P xs ys all.1 in ((all.0, rest.0), rest.1)

same_value : {X : Type 0} (one other : X) → ◌≡◌ {A = Option X} (Some one) (Some other) → one ≡ other
same_value one other same = cc

-- a part of a context, and the requests that may touch it
module _ {Context Words : Type 0} (theory : Theory Context Words) {X : Type 0} (part : Context → X) (touches : Context → Request → Bool) (place : ℕ) where
  abbrev pub Untouched : List (Given Context) → Type 0
  Untouched given = AllByRecursion (λ it. it.place ≡ place → touches it.context it.request ≡ false) given

  -- the part of the context at the place is unchanged
  abbrev pub Same : List Context → List Context → Type 0
  Same before after = slice_get (map part after) place ≡ slice_get (map part before) place

  module _ (by_request : (handling : Handling Context) → theory.conduct.Handles handling → touches handling.context handling.request ≡ false
      → part handling.after ≡ part handling.context)
      (cut_short : (context after : Context) (request : Request) → theory.conduct.CutsShort context request after → touches context request ≡ false
      → part after ≡ part context) where
    same_at : (contexts : List Context) (at other : ℕ) (old left : Context) → slice_get contexts at ≡ Some old → (at ≡ other → part left ≡ part old)
        → slice_get (map part (slice_set contexts at left)) other ≡ slice_get (map part contexts) other
    same_at [] at other old left there same = refl
    same_at (context ∷ contexts) zero zero old left there same = ap Some (same refl ∙ ap part (sym (same_value context old there)))
    same_at (context ∷ contexts) zero (suc other) old left there same = refl
    same_at (context ∷ contexts) (suc at) zero old left there same = refl
    same_at (context ∷ contexts) (suc at) (suc other) old left there same = same_at contexts at other old left there (λ is. same (ap suc is))

    same_contexts : (before after : List Context) → after ≡ before → Same before after
    same_contexts before after is = ap (λ cs. slice_get (map part cs) place) is

    -- ---- handled items

    responds_same : (moment : ℕ) (to : Destination) (message : MessageRecord) (words : ℕ × ℕ) (before after : List Context) (effect : Effect Context)
        → Responds theory moment to message words before effect after → Untouched (given_for_all effect.deeds) → Same before after
    responds_same moment (Itself entry response) message words before after effect responds untouched = same_contexts before after responds.3
    responds_same moment (Within at canon) message words before after effect responds untouched =
        let handling = responds.0 in
        let none = subst (λ (e : Effect Context). Untouched (given_for_all e.deeds)) responds.5 untouched in
        same_contexts (slice_set before at handling.after) after responds.3.is_after
        ∙ same_at before at place handling.context handling.after responds.3.there (λ is. by_request handling responds.3.handles (none.0 is))

    item_same : (moment : ℕ) (item : Item) (before after : World Context Words) (effect : Effect Context) → TakesItem theory moment item before effect after
        → Untouched (given_for_all effect.deeds) → Same before.contexts after.contexts
    item_same moment Continue before after effect takes untouched = same_contexts before.contexts after.contexts (ap (λ (w : World Context Words). w.contexts) takes.1)
    item_same moment (Refuse fault) before after effect takes untouched = same_contexts before.contexts after.contexts (ap (λ (w : World Context Words). w.contexts) takes.3)
    item_same moment (Message message) before after effect takes untouched =
        responds_same moment (destination theory before.contexts message.target) message takes.0 before.contexts after.contexts effect takes.2 untouched

    untouched_parts : (deeds more : List (Deed Context)) → Untouched (given_for_all (deeds ++ more)) → Untouched (given_for_all deeds) × Untouched (given_for_all more)
    untouched_parts deeds more untouched =
        all_parts (λ (it : Given Context). it.place ≡ place → touches it.context it.request ≡ false) (given_for_all deeds) (given_for_all more)
        (subst Untouched (flat_map-append given_for deeds more) untouched)

    takes_same : (moment : ℕ) (items : List Item) (before after : World Context Words) (effect : Effect Context) → Takes theory moment items before effect after
        → Untouched (given_for_all effect.deeds) → Same before.contexts after.contexts
    takes_same moment [] before after effect takes untouched = same_contexts before.contexts after.contexts (ap (λ (w : World Context Words). w.contexts) takes.1)
    takes_same moment (item ∷ items) before after effect takes untouched =
        let both = untouched_parts takes.1.deeds takes.2.deeds (subst (λ (e : Effect Context). Untouched (given_for_all e.deeds)) takes.5 untouched) in
        either takes.1.closes takes.4
        (λ none. same_contexts takes.0.contexts after.contexts (ap (λ (w : World Context Words). w.contexts) none.1))
        (λ rest. takes_same moment items takes.0 after takes.2 rest both.1)
        ∙ item_same moment item before takes.0 takes.1 takes.3 both.0

    -- ---- items that broke off

    left_same : (given : Given Context) (left : Context) → IsLeftBy theory given left → touches given.context given.request ≡ false → part left ≡ part given.context
    left_same given left (inl cut) none = cut_short given.context left given.request cut none
    left_same given left (inr handled) none =
        by_request record { context = given.context; request = given.request; entries = handled.0; response = handled.1; after = left } handled.2 none

    at_same : (at : ℕ) (request : Request) (before after : List Context) (given : List (Given Context)) → BreaksAt theory at request before given after
        → Untouched given → Same before after
    at_same at request before after given breaks untouched =
        let none = subst Untouched breaks.is_given untouched in
        same_contexts (slice_set before at breaks.left) after breaks.is_after
        ∙ same_at before at place breaks.context breaks.left breaks.there
        (λ is. left_same (record { place = at; context = breaks.context; request = request }) breaks.left breaks.is_left (none.0 is))

    answer_same : (moment : ℕ) (to : Destination) (message : MessageRecord) (words : ℕ × ℕ) (before after : List Context) (given : List (Given Context))
        → BreaksAnswer theory moment to message words before given after → Untouched given → Same before after
    answer_same moment (Itself entry response) message words before after given breaks untouched = same_contexts before after breaks.1
    answer_same moment (Within at canon) message words before after given (inl nothing) untouched = same_contexts before after nothing.1
    answer_same moment (Within at canon) message words before after given (inr breaks) untouched = at_same at _ before after given breaks untouched

    broken_same : (moment : ℕ) (item : Item) (before after : World Context Words) (given : List (Given Context)) → BreaksItem theory moment item before given after
        → Untouched given → Same before.contexts after.contexts
    broken_same moment Continue before after given breaks untouched = same_contexts before.contexts after.contexts (ap (λ (w : World Context Words). w.contexts) breaks.1)
    broken_same moment (Refuse fault) before after given breaks untouched = same_contexts before.contexts after.contexts (ap (λ (w : World Context Words). w.contexts) breaks.1)
    broken_same moment (Message message) before after given breaks untouched =
        answer_same moment (destination theory before.contexts message.target) message breaks.0 before.contexts after.contexts given breaks.2 untouched

    items_same : (moment : ℕ) (items : List Item) (before after : World Context Words) (given : List (Given Context)) → BreaksItems theory moment items before given after
        → Untouched given → Same before.contexts after.contexts
    items_same moment items before after given breaks untouched =
        let both = all_parts (λ (it : Given Context). it.place ≡ place → touches it.context it.request ≡ false) (given_for_all breaks.effect.deeds) breaks.last
        (subst Untouched breaks.is_given untouched) in
        broken_same moment breaks.item breaks.between after breaks.last breaks.breaks both.1
        ∙ takes_same moment breaks.front before breaks.between breaks.effect breaks.takes both.0

    nothing_same : (before after : World Context Words) (given : List (Given Context)) → DoesNothing before given after → Same before.contexts after.contexts
    nothing_same before after given nothing = same_contexts before.contexts after.contexts (ap (λ (w : World Context Words). w.contexts) nothing.1)

    pub breaks_same : (before : State Context Words) (happening : Happening) (after : World Context Words) (given : List (Given Context))
        → BreaksOff theory before happening given after → Untouched given → Same before.world.contexts after.contexts
    breaks_same before (Piece number bytes moment) after given (inl nothing) untouched = nothing_same before.world after given nothing
    breaks_same before (Piece number bytes moment) after given (inr breaks) untouched =
        items_same before.moment breaks.items before.world after given breaks.breaks untouched
    breaks_same before (Opened number) after given nothing untouched = nothing_same before.world after given nothing
    breaks_same before (Ended number) after given nothing untouched = nothing_same before.world after given nothing
    breaks_same before (Lost number) after given nothing untouched = nothing_same before.world after given nothing
    breaks_same before (Tick moment) after given nothing untouched = nothing_same before.world after given nothing
    breaks_same before (Edited path edit) after given nothing untouched = nothing_same before.world after given nothing

    -- if expiry keeps the part too, the event does
    module _ (by_expiry : (context after : Context) (moment : ℕ) (told : List Entry) → theory.conduct.Expires context moment told after → part after ≡ part context) where
      expiry_same : (contexts after : List Context) (moment : ℕ) (told : List Entry) → ExpiresAll theory.conduct contexts moment told after
          → map part after ≡ map part contexts
      expiry_same [] after moment told expires = ap (map part) expires.1
      expiry_same (context ∷ contexts) after moment told expires =
          ap (map part) expires.7
          ∙ (λ i. by_expiry context expires.2 moment expires.0 expires.4 i ∷ expiry_same contexts expires.3 moment expires.1 expires.5 i)

      pub event_same : (before after : State Context Words) (happening : Happening) (breaks : Breaks theory before happening after) → Untouched breaks.given
          → Same before.world.contexts after.world.contexts
      event_same before after happening breaks untouched =
          breaks_same _ happening after.world breaks.given breaks.breaks untouched
          ∙ ap (λ parts. slice_get parts place) (expiry_same before.world.contexts breaks.contexts _ breaks.told breaks.expires)

others_untouched : {Context Words : Type 0} (theory : Theory Context Words) (place : ℕ) (given : List (Given Context))
    → AllByRecursion (λ it. it.place ≢ place) given → Untouched theory {X = Context} (λ context. context) (λ context request. true) place given
others_untouched theory place [] others = tt
others_untouched theory place (it ∷ given) others = (λ is. absurd (others.0 is), others_untouched theory place given others.1)

-- a context that was given no request is as expiry left it
pub others_stay : {Context Words : Type 0} (theory : Theory Context Words) → OthersStay theory
others_stay {Context} theory before after happening breaks place others =
    ap (λ cs. slice_get cs place) (sym (map-id after.world.contexts))
    ∙ breaks_same theory (λ context. context) (λ context request. true) place
    (λ handling handles none. absurd (cc)) (λ context left request cut none. absurd (cc))
    _ happening after.world breaks.given breaks.breaks (others_untouched theory place breaks.given others)
    ∙ ap (λ cs. slice_get cs place) (map-id breaks.contexts)
