-- The state after an event that memory ended.
use Rattle.std.proofs.Common.{◌≡◌, ◌⊎◌, ℕ, ◌<◌, inl, inr, true, false, List, [], ◌∷◌, ◌++◌, length, None, Result, Ok, Err, IfErr, slice_index_or, slice_set, refl, sym, subst}
use Rattle.sv_wire.proofs.BoolLemmas.{MatchBool-from_false}
use Rattle.sv_run.proofs.Handling.{there_at}
use Rattle.sv_run.specs.HostConnections.{FeedsOne}
use Rattle.sv_journal.specs.declared.entry.Entry.{Entry}
use Rattle.sv_run.proofs.Effects.{joined-nothing}
use Rattle.sv_run.proofs.Taking.{takes_whole}
use Rattle.sv_run.specs.Breaking.{BreaksAnswer, BreaksItem, BreaksItems, BreaksPiece, DoesNothing, Given}
use Rattle.sv_run.specs.Connections.{Connections}
use Rattle.sv_run.specs.Contexts.{Theory, request_of}
use Rattle.sv_run.specs.Effect.{Effect, joined, nothing}
use Rattle.sv_run.specs.Events.{Breaks, BreaksOff, Edited, Ended, ExpiresAll, Happening, Lost, MovesAll, Opened, Piece, Tick, fault_of, moment_after}
use Rattle.sv_run.specs.Items.{Takes, TakesItem}
use Rattle.sv_run.specs.Messages.{Destination, Itself, Within, destination}
use Rattle.sv_run.specs.State.{State, World, settled_at, world_of}
use Rattle.sv_uri.specs.declared.path.Canon.{Canon}
use Rattle.sv_wire.specs.declared.item.Item.{Item}
use Rattle.sv_wire.specs.declared.item.Item.TheVariants as item
use Rattle.sv_message.specs.declared.message.Message.{Message}
use Rattle.sv_message.specs.declared.response.Response.{Response}

module _ {C W : Type 0} (theory : Theory C W) (moment : ℕ) (message : Message) (words : ℕ × ℕ) (before : List C) where
  -- memory ran out while the message was answered, after zero or one requests were given
  abbrev pub Broken : Destination → List C → Type 0
  Broken where_to after = (given : List (Given C)) × BreaksAnswer theory moment where_to message words before given after

  pub none_given : (where_to : Destination) → Broken where_to before
  none_given (Itself entry response) = ([], (refl, refl))
  none_given (Within place canon) = ([], inl (refl, refl))

  pub none_given_if : {T E : Type 0} (result : Result T E) (where_to : Destination) → IfErr result (λ _. Broken where_to before)
  none_given_if (Ok done) where_to = tt
  none_given_if (Err fault) where_to = none_given where_to

  module _ (place : ℕ) (canon : Canon) (old new : C) (within : place < length before) (is : old ≡ slice_index_or before place old) where
    pub cut_at : theory.conduct.CutsShort old (request_of message canon moment words) new → Broken (Within place canon) (slice_set before place new)
    cut_at cuts = (
      record { place = place; context = old; request = request_of message canon moment words } ∷ [],
      inr record { context = old; there = there_at before place old within is; left = new; is_left = inl cuts; is_after = refl; is_given = refl },
    )

    pub unsent : {T E : Type 0} (result : Result T E) (response : Response) (entries : List Entry)
        → theory.conduct.Handles record { context = old; request = request_of message canon moment words; entries = entries; response = response; after = new }
        → IfErr result (λ _. Broken (Within place canon) (slice_set before place new))
    unsent (Ok done) response entries handles = tt
    unsent (Err fault) response entries handles = (
      record { place = place; context = old; request = request_of message canon moment words } ∷ [],
      inr record {
        context = old;
        there = there_at before place old within is;
        left = new;
        is_left = inr (entries, response, handles);
        is_after = refl;
        is_given = refl;
      },
    )

  pub broken_to : {T E : Type 0} (result : Result T E) (meant given : Destination) (after : List C) → meant ≡ given
      → IfErr result (λ _. Broken given after) → IfErr result (λ _. Broken meant after)
  broken_to result meant given after same broken = subst (λ to. IfErr result (λ _. Broken to after)) (sym same) broken

  pub draws_broken : {T E : Type 0} (result : Result T E) (source left : W) (after : List C) → theory.Draws source words left
      → IfErr result (λ _. Broken (destination theory before message.target) after)
      → IfErr result (λ _. (given : List (Given C)) × BreaksItem theory moment (item.Message message) (world_of before source) given (world_of after left))
  draws_broken (Ok done) source left after drawn broken = tt
  draws_broken (Err fault) source left after drawn broken = (broken.0, (words, drawn, broken.1))

module _ {C W : Type 0} (theory : Theory C W) (moment : ℕ) where
  abbrev pub BrokenItem : Item → World C W → World C W → Type 0
  BrokenItem at before after = (given : List (Given C)) × BreaksItem theory moment at before given after

  pub broken_as : {T E : Type 0} (result : Result T E) (at same : Item) (before after : World C W) → at ≡ same
      → IfErr result (λ _. BrokenItem same before after) → IfErr result (λ _. BrokenItem at before after)
  broken_as result at same before after is broken = subst (λ one. IfErr result (λ _. BrokenItem one before after)) (sym is) broken

  pub none_done_if : {T E : Type 0} (result : Result T E) (at : Item) (world : World C W) → BrokenItem at world world → IfErr result (λ _. BrokenItem at world world)
  none_done_if (Ok done) at world broken = tt
  none_done_if (Err fault) at world broken = broken

  -- the items before one item
  pub took_next : (before : List Item) (start reached next : World C W) (front more : Effect C) (one : Item)
      → front.closes ≡ false → more.closes ≡ false
      → Takes theory moment before start front reached → TakesItem theory moment one reached more next
      → Takes theory moment (before ++ one ∷ []) start (joined front more) next
  took_next before start reached next front more one unclosed still_unclosed took takes =
      takes_whole theory moment before (one ∷ []) start reached next front more took
      (MatchBool-from_false front.closes _ _ unclosed
      (next, more, nothing, takes, MatchBool-from_false more.closes _ _ still_unclosed (refl, refl), sym (joined-nothing more)))

  pub broken_at : (all before rest : List Item) (start reached after : World C W) (front : Effect C) (one : Item)
      → all ≡ before ++ one ∷ rest → front.closes ≡ false
      → Takes theory moment before start front reached → BrokenItem one reached after
      → (given : List (Given C)) × BreaksItems theory moment all start given after
  broken_at all before rest start reached after front one are unclosed took broken = (
    _,
    record {
      front = before;
      item = one;
      behind = rest;
      are = are;
      effect = front;
      between = reached;
      takes = took;
      is_open = unclosed;
      last = broken.0;
      breaks = broken.1;
      is_given = refl;
    },
  )

module _ {C W : Type 0} (theory : Theory C W) (state : State C W) where
  abbrev pub BrokenPiece : ℕ → List ℕ → World C W → Type 0
  BrokenPiece number piece after = (given : List (Given C)) × (DoesNothing state.world given after ⊎ BreaksPiece theory state number piece given after)

  pub none_read : {T E : Type 0} (result : Result T E) (number : ℕ) (piece : List ℕ) → IfErr result (λ _. BrokenPiece number piece state.world)
  none_read (Ok done) number piece = tt
  none_read (Err fault) number piece = ([], inl (refl, refl))

  pub broken_piece : (number : ℕ) (piece : List ℕ) (items : List Item) (fed : Connections) (after : World C W)
      → FeedsOne state.connections number piece items fed → (given : List (Given C)) × BreaksItems theory state.moment items state.world given after
      → BrokenPiece number piece after
  broken_piece number piece items fed after feeds broken = (
    broken.0,
    inr record { held = feeds.held; holds = feeds.holds; items = items; left = feeds.left; feeds = feeds.feeds; breaks = broken.1 },
  )

  -- an event that did not begin
  pub not_begun : (happening : Happening) → BreaksOff theory state happening [] state.world
  not_begun (Opened number) = (refl, refl)
  not_begun (Piece number bytes moment) = inl (refl, refl)
  not_begun (Ended number) = (refl, refl)
  not_begun (Lost number) = (refl, refl)
  not_begun (Tick moment) = (refl, refl)
  not_begun (Edited path edit) = (refl, refl)

  pub not_begun_if : {T E : Type 0} (result : Result T E) (happening : Happening) (after : World C W) → IfErr result (λ _. after ≡ state.world)
      → IfErr result (λ _. (given : List (Given C)) × BreaksOff theory state happening given after)
  not_begun_if (Ok done) happening after same = tt
  not_begun_if (Err fault) happening after same = ([], subst (λ world. BreaksOff theory state happening [] world) (sym same) (not_begun happening))

  pub broken_off : {T E : Type 0} (result : Result T E) (happening : Happening) (number : ℕ) (bytes : List ℕ) (moment : ℕ) (after : World C W)
      → happening ≡ Piece number bytes moment → IfErr result (λ _. BrokenPiece number bytes after)
      → IfErr result (λ _. (given : List (Given C)) × BreaksOff theory state happening given after)
  broken_off result happening number bytes moment after is broken =
      subst (λ h. IfErr result (λ _. (given : List (Given C)) × BreaksOff theory state h given after)) (sym is) broken

  -- memory ran out after the expired sessions had ended
  abbrev pub BrokenEvent : Happening → World C W → Type 0
  BrokenEvent happening after =
      (told : List Entry) × (contexts : List C) × (given : List (Given C))
      × ExpiresAll theory.conduct state.world.contexts (moment_after state.moment happening) told contexts
      × BreaksOff theory (settled_at (moment_after state.moment happening) contexts state) happening given after

  pub broken_event : (happening : Happening) (moment : ℕ) (told : List Entry) (contexts : List C) (after : World C W)
      → moment ≡ moment_after state.moment happening → ExpiresAll theory.conduct state.world.contexts moment told contexts
      → (given : List (Given C)) × BreaksOff theory (settled_at moment contexts state) happening given after
      → BrokenEvent happening after
  broken_event happening moment told contexts after same expires breaks = (
    told,
    contexts,
    breaks.0,
    subst (λ m. ExpiresAll theory.conduct state.world.contexts m told contexts) same expires,
    subst (λ m. BreaksOff theory (settled_at m contexts state) happening breaks.0 after) same breaks.1,
  )

  pub breaks_so : (happening : Happening) (after : State C W) → state.stopped ≡ false → fault_of state.connections happening ≡ None → after.stopped ≡ true
      → BrokenEvent happening after.world → MovesAll theory.conduct state.world.contexts after.world.contexts → Breaks theory state happening after
  breaks_so happening after runs no_fault stops broken moves = record {
    runs = runs;
    no_fault = no_fault;
    stops = stops;
    told = broken.0;
    contexts = broken.1;
    expires = broken.3;
    given = broken.2;
    breaks = broken.4;
    moves = moves;
  }
