-- Answering a message, composed of parts.
use Rattle.std.specs.Prelude.{OnOk, codes, length, true}
use Rattle.std.proofs.Common.{◌≡◌, ℕ, Bool, inl, inr, List, [], ◌++◌, Option, None, Some, Result, Ok, Err, refl, sym, ◌∙◌, ap, ap₂, subst}
use Rattle.sv_admission.specs.declared.answer.Answer.{Answer}
use Rattle.sv_admission.specs.declared.answer.TheConstants.{SEE_OTHER}
use Rattle.sv_component.proofs.Running.{runs_grown}
use Rattle.sv_component.specs.Runs.{IsRun, Record, Runs}
use Rattle.sv_component.specs.Steps.{ComponentSteps}
use Rattle.sv_dispatch.proofs.RunningDeeds.{there_or_not}
use Rattle.sv_dispatch.specs.Did.{seen}
use Rattle.sv_dispatch.specs.Running.{made_seen}
use Rattle.sv_exchange.specs.Changing as changing
use Rattle.sv_exchange.specs.Changing.{Change, SetHeader, SetStatus, Write}
use Rattle.sv_exchange.specs.State as exchanges
use Rattle.sv_exchange.specs.declared.exchange_fault.ExchangeFault.{ExchangeFault}
use Rattle.sv_journal.specs.Journal.{JournalState}
use Rattle.sv_session.specs.declared.event.Event.{Event}
use Rattle.sv_session.specs.declared.event.Event.TheVariants.{RequestDestroyed, RequestInitialized}
use Rattle.sv_live.specs.Calling.{StandsAsBefore}
use Rattle.sv_live.specs.Standing.{LiveState, live_world}
use Rattle.sv_listeners.specs.Telling.{told}
use Rattle.sv_dispatch.proofs.ContextDeeds.{by_alone, by_not, by_then}
use Rattle.sv_dispatch.proofs.ExchangeDeeds.{alone_makes, alone_not, alone_then}
use Rattle.sv_dispatch.specs.ServedBy.{Alone, ServedBy}
use Rattle.sv_text.specs.declared.no_memory.NoMemory.{NoMemory}
use Rattle.sv_tree.proofs.Doing.{chosen_then}
use Rattle.sv_tree.specs.Does.{Does, ◌>>=◌, ◌>>◌, becomes, gives, makes}
use Rattle.sv_tree.specs.Endings.{keeps}
use Rattle.sv_tree.specs.Served.{Plain, Resets, ShowsError, breaks, plain_text, reset, sets, unless_committed}
use Rattle.sv_tree.specs.Site.{Site}
use Rattle.sv_tree.specs.State.{State, on_exchange}
use Rattle.sv_tree.specs.Telling.{hears}
use Rattle.sv_uri.specs.declared.path.Canon.{Canon}
use Rattle.sv_message.specs.Phrases.{phrase_of}
use Rattle.sv_context.specs.Answered.{Answered, Answers, Requested, SendsTo, Tells}

-- The action makes no call.
abbrev pub IsQuiet : {A : Type 0} → Does A → Type 0
IsQuiet {A} does = (before : State) (calls : List Record) (after : State) (result : Option A) → does before calls after result → calls ≡ []

quiet_then : {A B : Type 0} (first : Does A) (next : A → Does B) → IsQuiet first → ((value : A) → IsQuiet (next value)) → IsQuiet (first >>= next)
quiet_then first next one two before calls after result (inl t) =
    t.is_joined ∙ ap₂ (λ front back. front ++ back) (one before t.front t.between (Some t.given) t.begins) (two t.given t.between t.back after result t.goes_on)
quiet_then first next one two before calls after result (inr t) = one before calls after None t.0

quiet_makes : (change : Change) → IsQuiet (makes change)
quiet_makes change before calls after result h = h.0

quiet_resets : (status : ℕ) → IsQuiet (Resets status None)
quiet_resets status =
    quiet_then (becomes (on_exchange reset)) (λ _. makes (SetStatus status) >> sets None) (λ before calls after result h. h.0)
    (λ _. quiet_then (makes (SetStatus status)) (λ _. sets None) (quiet_makes (SetStatus status)) (λ _ before calls after result h. h.0))

quiet_plain : (status : ℕ) → IsQuiet (Plain status None)
quiet_plain status =
    let typed = SetHeader (codes "content-type") (codes "text/plain") in
    let written = Write (plain_text status) in
    quiet_then (Resets status None) (λ _. makes typed >> makes written) (quiet_resets status)
    (λ _. quiet_then (makes typed) (λ _. makes written) (quiet_makes typed) (λ _. quiet_makes written))

quiet_unless : (next : Does (Unit {0})) → IsQuiet next → IsQuiet (unless_committed next)
quiet_unless next quiet before calls after result done =
    chosen_then before.exchange.committed breaks next before after calls result (λ _ broke. broke.0) (λ _ made. quiet before calls after result made) done

-- An error without a page is answered without a call.
pub quiet_error : (site : Site) (status : ℕ) → IsQuiet (ShowsError site status None)
quiet_error site status =
    quiet_then (keeps (record { status = status; text = phrase_of status; servlet = None; field = None })) (λ _. unless_committed (Plain status None))
    (λ before calls after result h. h.0) (λ _. quiet_unless (Plain status None) (quiet_plain status))

-- If nothing was logged, a whole journal is still whole.
pub whole_stays : (result : Result (Unit {0}) NoMemory) (before after : JournalState) → before.whole ≡ true → after ≡ before → OnOk result (after.whole ≡ true)
whole_stays (Ok done) before after is_whole same = ap (λ j. j.whole) same ∙ is_whole
whole_stays (Err refusal) before after is_whole same = tt

-- The client is redirected.
module _ (location : List ℕ) (x y : exchanges.State) (said : Result Bool ExchangeFault) (did : changing.Does (SetStatus SEE_OTHER) said x y) (made : Option (Unit {0})) (is : made ≡ made_seen said) where
  stated : Alone (makes (SetStatus SEE_OTHER)) x y made
  stated = subst (Alone (makes (SetStatus SEE_OTHER)) x y) (sym is) (alone_makes (SetStatus SEE_OTHER) x y said did)

  pub sends_not : made ≡ None → Alone (SendsTo location) x y None
  sends_not none =
      alone_not (makes (SetStatus SEE_OTHER)) (λ _. makes (SetHeader (codes "location") location)) x y
      (subst (Alone (makes (SetStatus SEE_OTHER)) x y) none stated)

  pub sends_so : made ≡ Some tt → (z : exchanges.State) (then_said : Result Bool ExchangeFault) (result : Option (Unit {0}))
      → changing.Does (SetHeader (codes "location") location) then_said y z → result ≡ made_seen then_said → Alone (SendsTo location) x z result
  sends_so some z then_said result then_did then_is =
      let located = SetHeader (codes "location") location in
      alone_then (makes (SetStatus SEE_OTHER)) (λ _. makes located) x y z tt result
      (subst (Alone (makes (SetStatus SEE_OTHER)) x y) some stated)
      (subst (Alone (makes located) y z) (sym then_is) (alone_makes located y z then_said then_did))

module _ {S F L : Type 0} (moving : ComponentSteps S F L) where
  -- The listeners are notified of an event.
  pub by_hearing : (live live' : LiveState S F L) (x : exchanges.State) (noted noted' : JournalState) (event : Event) (result : Result (Unit {0}) NoMemory)
      → Runs moving (live_world live noted) (told event (length live.parts.listeners.items)) (live_world live' noted')
      → StandsAsBefore live live'
      → ServedBy moving (hears (length live.parts.listeners.items) event) live x noted (seen result) live' x noted'
  by_hearing live live' x noted noted' event result made stands = record {
    made = told event (length live.parts.listeners.items);
    does_so = (refl, ap (λ its_standings. record { exchange = x; standings = its_standings }) stands.standings, there_or_not result);
    runs = runs_grown moving (live_world live noted) (live_world live' noted') (told event (length live.parts.listeners.items)) made;
    counts = stands.counts;
    context = stands.context;
    initialised = stands.initialised;
  }

  -- An action without calls leaves the journal unchanged.
  pub journal_stays : {A : Type 0} (does : Does A) (live live' : LiveState S F L) (x x' : exchanges.State) (noted noted' : JournalState) (result : Option A)
      → IsQuiet does → ServedBy moving does live x noted result live' x' noted' → noted' ≡ noted
  unfolding IsRun
  journal_stays does live live' x x' noted noted' result quiet did =
      let none : did.made ≡ [] = quiet _ did.made _ result did.does_so in
      ap (λ w. w.journal) (subst (λ calls. IsRun moving (live_world live noted) calls (live_world live' noted')) none did.runs)

  -- A request, with the notifications of the listeners.
  module _ (site : Site) (dispatches : Does (Unit {0})) (live live' : LiveState S F L) (x : exchanges.State) (noted noted' : JournalState) (hearing : length live.parts.listeners.items ≡ site.listeners) where
    -- The rest of the action, after the first notification.
    abbrev Dispatched : Does (Unit {0})
    Dispatched = dispatches >> hears site.listeners RequestDestroyed

    begins : (result : Option (Unit {0})) → ServedBy moving (hears (length live.parts.listeners.items) RequestInitialized) live x noted result live' x noted'
        → ServedBy moving (hears site.listeners RequestInitialized) live x noted result live' x noted'
    begins result heard = subst (λ count. ServedBy moving (hears count RequestInitialized) live x noted result live' x noted') hearing heard

    pub requested_not : ServedBy moving (hears (length live.parts.listeners.items) RequestInitialized) live x noted None live' x noted'
        → ServedBy moving (Requested site dispatches) live x noted None live' x noted'
    requested_not heard = by_not moving (hears site.listeners RequestInitialized) (λ _. Dispatched) live live' x x noted noted' (begins None heard)

    module _ (heard : ServedBy moving (hears (length live.parts.listeners.items) RequestInitialized) live x noted (Some tt) live' x noted')
        (live'' : LiveState S F L) (x'' : exchanges.State) (noted'' : JournalState) where
      pub requested_cut : ServedBy moving dispatches live' x noted' None live'' x'' noted'' → ServedBy moving (Requested site dispatches) live x noted None live'' x'' noted''
      requested_cut did =
          by_then moving (hears site.listeners RequestInitialized) (λ _. Dispatched) live live' x x noted noted' live'' x'' noted'' tt None (begins (Some tt) heard)
          (by_not moving dispatches (λ _. hears site.listeners RequestDestroyed) live' live'' x x'' noted' noted'' did)

      pub requested_so : (live''' : LiveState S F L) (noted''' : JournalState) (result : Option (Unit {0}))
          → ServedBy moving dispatches live' x noted' (Some tt) live'' x'' noted''
          → ServedBy moving (hears (length live''.parts.listeners.items) RequestDestroyed) live'' x'' noted'' result live''' x'' noted'''
          → ServedBy moving (Requested site dispatches) live x noted result live''' x'' noted'''
      requested_so live''' noted''' result did last =
          by_then moving (hears site.listeners RequestInitialized) (λ _. Dispatched) live live' x x noted noted' live''' x'' noted''' tt result (begins (Some tt) heard)
          (by_then moving dispatches (λ _. hears site.listeners RequestDestroyed) live' live'' x x'' noted' noted'' live''' x'' noted''' tt result did
          (subst (λ count. ServedBy moving (hears count RequestDestroyed) live'' x'' noted'' result live''' x'' noted''')
          (did.counts.listeners ∙ heard.counts.listeners ∙ hearing) last))

  module _ (site : Site) (live live' : LiveState S F L) (x : exchanges.State) (noted noted' : JournalState) where
    -- The session event of the admission.
    pub tells_none : (event : Option Event) → event ≡ None → ServedBy moving (Tells site event) live x noted (Some tt) live x noted
    tells_none event none =
        subst (λ event. ServedBy moving (Tells site event) live x noted (Some tt) live x noted) (sym none)
        (by_alone moving (gives tt) live x x noted (Some tt) (λ standings. (refl, refl, refl)))

    pub tells_some : (event : Option Event) (its_event : Event) (result : Option (Unit {0})) → event ≡ Some its_event → length live.parts.listeners.items ≡ site.listeners
        → ServedBy moving (hears (length live.parts.listeners.items) its_event) live x noted result live' x noted'
        → ServedBy moving (Tells site event) live x noted result live' x noted'
    tells_some event its_event result some hearing heard =
        subst (λ event. ServedBy moving (Tells site event) live x noted result live' x noted') (sym some)
        (subst (λ count. ServedBy moving (hears count its_event) live x noted result live' x noted') hearing heard)

    -- The listeners are notified of it first.
    pub answered_not : (canon : Canon) (event : Option Event) (answer : Answer)
        → ServedBy moving (Tells site event) live x noted None live' x noted' → ServedBy moving (Answered site canon event answer) live x noted None live' x noted'
    answered_not canon event answer told_it = by_not moving (Tells site event) (λ _. Answers site canon answer) live live' x x noted noted' told_it

    pub answered_so : (canon : Canon) (event : Option Event) (answer : Answer) (live'' : LiveState S F L) (x'' : exchanges.State) (noted'' : JournalState) (result : Option (Unit {0}))
        → ServedBy moving (Tells site event) live x noted (Some tt) live' x noted'
        → ServedBy moving (Answers site canon answer) live' x noted' result live'' x'' noted''
        → ServedBy moving (Answered site canon event answer) live x noted result live'' x'' noted''
    answered_so canon event answer live'' x'' noted'' result told_it answered =
        by_then moving (Tells site event) (λ _. Answers site canon answer) live live' x x noted noted' live'' x'' noted'' tt result told_it answered
