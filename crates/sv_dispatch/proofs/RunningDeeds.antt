-- The steps of a machine on a started context with its exchange.
use Rattle.std.proofs.Common.{◌≡◌, ◌⊎◌, inl, inr, ℕ, Bool, true, false, List, [], ◌∷◌, ◌++◌, length, Option, None, Some, Result, Ok, Err, refl, sym, ap, ap₂, ◌∙◌, subst, if◌then◌else◌, append_assoc}
use Rattle.std.proofs.lemmas.Option.{unwrap_or-slice_get}
use Rattle.std.specs.Prelude.{is_ok, slice_index_or, OnErr, OnOk}
use Rattle.std.specs.Borrow.{GName}
use Rattle.sv_component.proofs.Journalling.{run_gains}
use Rattle.sv_component.proofs.Running.{runs_grown}
use Rattle.sv_component.specs.Call.{Entered, Left, Serviced}
use Rattle.sv_component.specs.Runs.{IsRun, OfFilter, OfServlet, Record, Runs}
use Rattle.sv_component.specs.Standing.{is_gone}
use Rattle.sv_component.specs.World.{World}
use Rattle.sv_component.specs.declared.answers.Gate.{Gate}
use Rattle.sv_component.specs.declared.answers.Gate.TheVariants as gates
use Rattle.sv_component.specs.declared.answers.Step.{Step}
use Rattle.sv_component.specs.declared.answers.Step.TheVariants as steps
use Rattle.sv_component.specs.declared.standing.Standing.{Standing}
use Rattle.sv_component.specs.declared.standing.Standing.TheVariants.{Gone}
use Rattle.sv_component.specs.Steps.{ComponentSteps}
use Rattle.sv_dispatch.specs.Did.{Frame, seen, staying}
use Rattle.sv_dispatch.specs.Running.{done_seen, gate_seen, made_seen, offer_seen, step_seen}
use Rattle.sv_dispatch.specs.Seen.{offers}
use Rattle.sv_exchange.specs.Changing.{Change, Reaches, Does, Write, answer, has_room, left_by}
use Rattle.sv_exchange.specs.State as exchanges
use Rattle.sv_exchange.specs.declared.exchange_fault.ExchangeFault.{ExchangeFault}
use Rattle.sv_exchange.specs.declared.exchange_fault.ExchangeFault.TheVariants as faults
use Rattle.sv_journal.specs.Journal.{JournalState}
use Rattle.sv_live.specs.Calling.{CallsOnce, Enters, Leaves, Serves, StandsAsBefore}
use Rattle.sv_live.specs.Standing.{LiveState, live_world, standing_at}
use Rattle.sv_live.specs.World.{HasSameCounts}
use Rattle.sv_journal.specs.declared.calls.Place.{Place}
use Rattle.sv_text.specs.declared.no_memory.NoMemory.{NoMemory}
use Rattle.sv_tree.specs.Does as does
use Rattle.sv_tree.specs.Asking.{asks, without_events}
use Rattle.sv_tree.specs.Does.{choose, gives, makes, tries, ◌>>◌}
use Rattle.sv_tree.specs.Filters.{after_of, before_of}
use Rattle.sv_tree.specs.State.{State, on_exchange, with_exchange}
use Rattle.sv_tree.specs.Telling.{all_told}
use Rattle.sv_tree.specs.Tree.{service_of}

-- The state with these standings and this exchange.
abbrev pub at : List Standing → exchanges.State → State
at its_standings its_exchange = record { exchange = its_exchange; standings = its_standings }

-- The exchange is changed, or nothing is.
pub tried : {E : Type 0} (change : exchanges.State → exchanges.State) (x y : exchanges.State) (standings : List Standing) (result : Result (Unit {0}) E)
    → OnOk result (y ≡ change x) → OnErr result (y ≡ x) → tries (on_exchange change) (at standings x) [] (at standings y) (seen result)
tried change x y standings (Ok done) so not = (refl, inl (ap (at standings) so, refl))
tried change x y standings (Err refusal) so not = (refl, inr (ap (at standings) not, refl))

-- A change of the exchange by the container itself.
module _ (change : Change) (x y : exchanges.State) (standings : List Standing) where
  answered_so : (said : Result Bool ExchangeFault) → (answer change x ≡ said) → y ≡ left_by said change x
      → makes change (at standings x) [] (at standings y) (Some tt)
  answered_so said is left = (refl, inl (ap (at standings) (left ∙ ap (λ said. left_by said change x) (sym is)), refl))

  pub makes_so : (said : Result Bool ExchangeFault) → Does change said x y → makes change (at standings x) [] (at standings y) (made_seen said)
  makes_so (Ok done) h = answered_so (Ok done) h.0 h.1
  makes_so (Err faults.NoMemory) h = (refl, inr (ap (at standings) h.1, refl))
  makes_so (Err faults.Committed) h = answered_so (Err faults.Committed) h.0 h.1
  makes_so (Err faults.TooManySessions) h = answered_so (Err faults.TooManySessions) h.0 h.1
  makes_so (Err faults.SerialSpent) h = answered_so (Err faults.SerialSpent) h.0 h.1
  makes_so (Err faults.NoSession) h = answered_so (Err faults.NoSession) h.0 h.1
  makes_so (Err faults.BadHeader) h = answered_so (Err faults.BadHeader) h.0 h.1
  makes_so (Err faults.TooLarge) h = answered_so (Err faults.TooLarge) h.0 h.1

has : (room done : Bool) → (if room then Ok true else Err faults.TooLarge) ≡ Ok done → room ≡ true
has true done e = refl
has false done e = cc

has_not : (room : Bool) (fault : ExchangeFault) → (if room then Ok true else Err faults.TooLarge) ≡ Err fault → room ≡ false
has_not true fault e = cc
has_not false fault e = refl

-- Bytes are written if the body has room for them.
module _ (bytes : List ℕ) (x y : exchanges.State) (standings : List Standing) where
  abbrev Written : does.Does Bool
  Written = makes (Write bytes) >> gives true

  chosen_first : (test : Bool) (result : Option Bool) → test ≡ true → Written (at standings x) [] (at standings y) result
      → choose test Written (gives false) (at standings x) [] (at standings y) result
  chosen_first test result e h = subst (λ test. choose test Written (gives false) (at standings x) [] (at standings y) result) (sym e) h

  refused_so : (fault : ExchangeFault) → answer (Write bytes) x ≡ Err fault → y ≡ x → offers bytes (at standings x) [] (at standings y) (Some false)
  refused_so fault is same =
      subst (λ test. choose test Written (gives false) (at standings x) [] (at standings y) (Some false)) (sym (has_not (has_room (length bytes) x) fault is))
      (refl, ap (at standings) same, refl)

  pub offered : (said : Result Bool ExchangeFault) → Does (Write bytes) said x y → offers bytes (at standings x) [] (at standings y) (offer_seen said)
  offered (Ok done) h =
      chosen_first (has_room (length bytes) x) (Some true) (has (has_room (length bytes) x) done h.0)
      (inl record { given = tt; between = at standings y; front = []; back = []; begins = makes_so (Write bytes) x y standings (Ok done) h; goes_on = (refl, refl, refl); is_joined = refl })
  offered (Err faults.NoMemory) h =
      chosen_first (has_room (length bytes) x) None (has (has_room (length bytes) x) true h.0)
      (inr (makes_so (Write bytes) x y standings (Err faults.NoMemory) h, refl))
  offered (Err faults.Committed) h = refused_so faults.Committed h.0 h.1
  offered (Err faults.TooManySessions) h = refused_so faults.TooManySessions h.0 h.1
  offered (Err faults.SerialSpent) h = refused_so faults.SerialSpent h.0 h.1
  offered (Err faults.NoSession) h = refused_so faults.NoSession h.0 h.1
  offered (Err faults.BadHeader) h = refused_so faults.BadHeader h.0 h.1
  offered (Err faults.TooLarge) h = refused_so faults.TooLarge h.0 h.1

-- The result of a component, unless memory ran out for it or for its entry.
gate_ends : (whole : Bool) (gate result : Gate) → result ≡ (if whole then gate else gates.NoMemory) → (gate_seen result ≡ Some gate) ⊎ (gate_seen result ≡ None)
gate_ends false gate result e = inr (ap gate_seen e)
gate_ends true gates.Pass result e = inl (ap gate_seen e)
gate_ends true gates.Stop result e = inl (ap gate_seen e)
gate_ends true (gates.Failed kind text) result e = inl (ap gate_seen e)
gate_ends true gates.NoMemory result e = inr (ap gate_seen e)

step_ends : (whole : Bool) (step result : Step) → result ≡ (if whole then step else steps.NoMemory) → (step_seen result ≡ Some step) ⊎ (step_seen result ≡ None)
step_ends false step result e = inr (ap step_seen e)
step_ends true steps.Done result e = inl (ap step_seen e)
step_ends true (steps.Forward path) result e = inl (ap step_seen e)
step_ends true (steps.Include path) result e = inl (ap step_seen e)
step_ends true (steps.Error code text) result e = inl (ap step_seen e)
step_ends true (steps.Failed kind text) result e = inl (ap step_seen e)
step_ends true (steps.Unavailable seconds) result e = inl (ap step_seen e)
step_ends true steps.NoMemory result e = inr (ap step_seen e)

done_ends : (whole done : Bool) (result : Result (Unit {0}) NoMemory) → is_ok result ≡ (if whole then done else false)
    → (done_seen result ≡ Some done) ⊎ (done_seen result ≡ None)
done_ends true true (Ok it) e = inl refl
done_ends true false (Ok it) e = cc
done_ends false done (Ok it) e = cc
done_ends whole done (Err refusal) e = inr refl

ends_by : {A : Type 0} (x y : Option A) (value : A) → y ≡ x → (x ≡ Some value) ⊎ (x ≡ None) → (y ≡ Some value) ⊎ (y ≡ None)
ends_by x y value e (inl some) = inl (e ∙ some)
ends_by x y value e (inr none) = inr (e ∙ none)

abbrev frame_of : GName → GName → GName → List ℕ → ℕ → ℕ → ℕ → List Place → Bool → Frame
frame_of its_live its_exchange its_journal path count others hearing begun is_whole =
    record {
      context = path;
      servlets = count;
      filters = others;
      listeners = hearing;
      initialised = begun;
      live = its_live;
      exchange = its_exchange;
      journal = its_journal;
      whole = is_whole;
    }

same_frame : (live exchange journal : GName) (path path' : List ℕ) (count count' others others' hearing hearing' : ℕ) (begun begun' : List Place) (whole whole' : Bool)
    → path' ≡ path → count' ≡ count → others' ≡ others → hearing' ≡ hearing → begun' ≡ begun → whole' ≡ whole
    → frame_of live exchange journal path' count' others' hearing' begun' whole' ≡ frame_of live exchange journal path count others hearing begun whole
same_frame live exchange journal path path' count count' others others' hearing hearing' begun begun' whole whole' paths counts filters listeners places wholes =
    ap₂ (λ frame whole. frame whole)
    (ap₂ (λ frame places. frame places)
    (ap₂ (λ frame listeners. frame listeners)
    (ap₂ (λ frame filters. frame filters)
    (ap₂ (frame_of live exchange journal) paths counts) filters) listeners) places) wholes

-- A context with its journal, if only the servlets' states changed.
module _ {S F L : Type 0} (live exchange journal : GName) (before after : LiveState S F L) (same_context : after.context ≡ before.context)
    (same_counts : HasSameCounts before.parts after.parts) (same_initialised : after.initialised ≡ before.initialised) where
  frame_by : (was is : Bool) → is ≡ was
      → frame_of live exchange journal after.context (length after.parts.servlets.items) (length after.parts.filters.items) (length after.parts.listeners.items) after.initialised is
      ≡ frame_of live exchange journal before.context (length before.parts.servlets.items) (length before.parts.filters.items) (length before.parts.listeners.items) before.initialised was
  frame_by was is same =
      same_frame live exchange journal before.context after.context (length before.parts.servlets.items) (length after.parts.servlets.items)
      (length before.parts.filters.items) (length after.parts.filters.items) (length before.parts.listeners.items) (length after.parts.listeners.items)
      before.initialised after.initialised was is same_context same_counts.servlets same_counts.filters same_counts.listeners same_initialised same

  -- The frame stays, and the journal is whole unless memory ran out.
  pub framed : {A : Type 0} (was is : Bool) (said result : Option A) → (is ≡ true → was ≡ true) → result ≡ (if is then said else None)
      → staying result (frame_of live exchange journal after.context (length after.parts.servlets.items) (length after.parts.filters.items) (length after.parts.listeners.items) after.initialised is)
      ≡ staying result (frame_of live exchange journal before.context (length before.parts.servlets.items) (length before.parts.filters.items) (length before.parts.listeners.items) before.initialised was)
  framed was is said None earlier e = frame_by false false refl
  framed was true said (Some value) earlier e = frame_by was true (sym (earlier refl))
  framed was false said (Some value) earlier e = cc

pub stands_then : {S F L : Type 0} (before between after : LiveState S F L) → StandsAsBefore before between → StandsAsBefore between after → StandsAsBefore before after
stands_then before between after one two = record {
  context = two.context ∙ one.context;
  initialised = two.initialised ∙ one.initialised;
  standings = two.standings ∙ one.standings;
  counts = record {
    servlets = two.counts.servlets ∙ one.counts.servlets;
    filters = two.counts.filters ∙ one.counts.filters;
    listeners = two.counts.listeners ∙ one.counts.listeners;
  };
}

-- The state of a servlet, by both definitions.
pub stands_at : (standings : List Standing) (place : ℕ) → standing_at standings place ≡ slice_index_or standings place Gone
stands_at standings place = unwrap_or-slice_get standings place Gone

pub here_by_place : (standings : List Standing) (place : ℕ) → is_gone (slice_index_or standings place Gone) ≡ false → is_gone (standing_at standings place) ≡ false
here_by_place standings place here = ap is_gone (stands_at standings place) ∙ here

-- A result, unless the journal broke afterwards.
whole_ends : {A : Type 0} (whole : Bool) (given : Option A) (value : A) (result : Option A) → result ≡ (if whole then given else None)
    → (given ≡ Some value) ⊎ (given ≡ None) → (result ≡ Some value) ⊎ (result ≡ None)
whole_ends false given value result e ends = inr e
whole_ends true given value result e ends = ends_by given result value e ends

module _ {S F L : Type 0} (moving : ComponentSteps S F L) where
  -- A journal that is whole was whole before.
  pub was_whole : (before after : World S F L) (records : List Record) → Runs moving before records after → after.journal.whole ≡ true → before.journal.whole ≡ true
  was_whole before after records grows whole = ((run_gains moving before after records (runs_grown moving before after records grows)).all whole).0

-- A call and the notifications that follow it.
module _ {S F L : Type 0} (moving : ComponentSteps S F L) (live live' live'' : LiveState S F L) (noted noted' noted'' : JournalState) (x x' x'' : exchanges.State) where
  -- The calls that were made.
  abbrev pub Noted : Record → Type 0
  Noted call = Runs moving (live_world live noted) (call ∷ all_told (length live.parts.listeners.items) x'.events) (live_world live'' noted'')

  pub call_noted : (call : Record) → CallsOnce moving live noted call live' noted'
      → Runs moving (live_world live' noted') (all_told (length live'.parts.listeners.items) x'.events) (live_world live'' noted'') → Noted call
  call_noted call once tellings from done so_far =
      subst (λ listeners. IsRun moving from (done ++ call ∷ all_told listeners x'.events) (live_world live'' noted'')) once.stands.counts.listeners
      (subst (λ calls. IsRun moving from calls (live_world live'' noted'')) (append_assoc done (call ∷ []) (all_told (length live'.parts.listeners.items) x'.events))
      (tellings from (done ++ call ∷ []) (once.made from done so_far)))

  module _ (place : ℕ) (changes : Reaches x x') (stands : StandsAsBefore live' live'') (told : x'' ≡ without_events x') where
    left : (call : Record) (once : CallsOnce moving live noted call live' noted') → at live''.standings x'' ≡ with_exchange (without_events x') (at live.standings x)
    left call once = ap₂ at (stands.standings ∙ once.stands.standings) told

    pub asked_before : (given : Gate) (said result : Option Gate) (entered : Enters moving live noted place x given live' noted' x') → said ≡ gate_seen given
        → result ≡ (if noted''.whole then said else None)
        → asks (length live.parts.listeners.items) (before_of place) (at live.standings x)
        (OfFilter place (Entered x entered.gate x') ∷ all_told (length live.parts.listeners.items) x'.events) (at live''.standings x'') result
    asked_before given said result entered is ends = record {
      answer = entered.gate;
      exchange = x';
      is_made = refl;
      changes = changes;
      is = left (OfFilter place (Entered x entered.gate x')) entered.calls;
      ends = whole_ends noted''.whole said entered.gate result ends
          (ends_by (gate_seen given) said entered.gate is (gate_ends noted'.whole entered.gate given entered.answers));
    }

    pub asked_after : (given : Result (Unit {0}) NoMemory) (said result : Option Bool) (leaving : Leaves moving live noted place x given live' noted' x') → said ≡ done_seen given
        → result ≡ (if noted''.whole then said else None)
        → asks (length live.parts.listeners.items) (after_of place) (at live.standings x)
        (OfFilter place (Left x leaving.done x') ∷ all_told (length live.parts.listeners.items) x'.events) (at live''.standings x'') result
    asked_after given said result leaving is ends = record {
      answer = leaving.done;
      exchange = x';
      is_made = refl;
      changes = changes;
      is = left (OfFilter place (Left x leaving.done x')) leaving.calls;
      ends = whole_ends noted''.whole said leaving.done result ends
          (ends_by (done_seen given) said leaving.done is (done_ends noted'.whole leaving.done given leaving.answers));
    }

    pub asked_service : (turn : ℕ) (given : Step) (said result : Option Step) (served : Serves moving live noted place turn x given live' noted' x') → said ≡ step_seen given
        → result ≡ (if noted''.whole then said else None)
        → asks (length live.parts.listeners.items) (service_of place turn) (at live.standings x)
        (OfServlet place (Serviced x turn served.step x') ∷ all_told (length live.parts.listeners.items) x'.events) (at live''.standings x'') result
    asked_service turn given said result served is ends = record {
      answer = served.step;
      exchange = x';
      is_made = refl;
      changes = changes;
      is = left (OfServlet place (Serviced x turn served.step x')) served.calls;
      ends = whole_ends noted''.whole said served.step result ends
          (ends_by (step_seen given) said served.step is (step_ends noted'.whole served.step given served.answers));
    }

-- There is a result or none.
pub there_or_not : {E : Type 0} (result : Result (Unit {0}) E) → (seen result ≡ Some tt) ⊎ (seen result ≡ None)
there_or_not (Ok done) = inl refl
there_or_not (Err refusal) = inr refl

-- There is a result exactly if the journal is whole.
pub there_if : {E : Type 0} (result : Result (Unit {0}) E) (whole : Bool) → is_ok result ≡ whole → seen result ≡ (if whole then Some tt else None)
there_if (Ok done) true e = refl
there_if (Ok done) false e = cc
there_if (Err refusal) true e = cc
there_if (Err refusal) false e = refl
