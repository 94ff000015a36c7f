-- A start that succeeds, and one that is undone.
use Rattle.std.proofs.Common.{◌≡◌, ℕ, ◌<◌, Bool, true, false, List, [], ◌∷◌, ◌++◌, length, get_or, map, take, Option, None, Some, Ok, Err, refl, sym, ◌∙◌, ap, subst, arith}
use Rattle.std.specs.Prelude.{cond, is_some, not}
use Rattle.std.specs.Prelude.{IfSome}
use Rattle.std.specs.List.{All, filter, range_with_len}
use Rattle.std.specs.Option.{option_to_list}
use Rattle.std.proofs.lemmas.List.{append-nil, append_assoc, get_or-map, get_or_append_left, length-append, length-map, length-replicate, map-append}
use Rattle.std.proofs.lemmas.List.Elements.{All-append, All-filter, All-map}
use Rattle.std.proofs.lemmas.List.FromFn.{get_or-range_with_len, length-range_with_len}
use Rattle.std.proofs.lemmas.List.Sorted.{All-permutation}
use Rattle.sv_component.specs.Runs.{Record, Runs}
use Rattle.sv_component.specs.World.{World}
use Rattle.sv_component.specs.declared.answers.Init.{Init}
use Rattle.sv_component.specs.declared.answers.Init.TheVariants as init_answers
use Rattle.sv_descriptor.specs.declared.web_app.WebApp.{WebApp}
use Rattle.sv_journal.specs.Journal.{JournalState}
use Rattle.sv_session.specs.declared.event.Event.TheVariants.{ContextInitialized}
use Rattle.sv_listeners.specs.Telling.{told}
use Rattle.sv_component.proofs.Journalling.{run_gains}
use Rattle.sv_component.proofs.Running.{runs_grown}
use Rattle.sv_component.proofs.Growing.{grows_join, grows_none}
use Rattle.sv_lifecycle.specs.Begins.{Begins}
use Rattle.sv_live.specs.Calls.{stop_calls}
use Rattle.sv_lifecycle.specs.declared.begin.Answered.{Answered}
use Rattle.sv_lifecycle.specs.Calls.{inited, initialised, is_ready, lets_go_on, places_of, start_calls}
use Rattle.sv_lifecycle.specs.Fit.{Fits}
use Rattle.sv_lifecycle.specs.Plan.{IsPlan}
use Rattle.sv_lifecycle.specs.Starting.{GoesInOrder, Inits, RefusesUntouched, Started, Starts, Undone, Untouched, code_of}
use Rattle.sv_live.specs.World.{HasSameCounts, IsPlaceIn, world}
use Rattle.sv_lifecycle.specs.declared.begin.Begun.{Begun}
use Rattle.sv_journal.specs.declared.calls.Place.{Place}
use Rattle.sv_journal.specs.declared.calls.Place.TheVariants as places
use Rattle.sv_live.specs.declared.live.Parts.{Parts}
use Rattle.sv_lifecycle.specs.declared.plan.Plan.{Plan}
use Rattle.sv_component.specs.declared.standing.Standing.TheVariants.{Serving}
use Rattle.sv_component.specs.Steps.{ComponentSteps}
use Rattle.sv_journal.specs.declared.start_code.StartCode.{StartCode}
use Rattle.sv_lifecycle.proofs.Beginning.{initialised_push}
use Rattle.sv_lifecycle.proofs.Fitting.{same_length}
use Rattle.sv_live.proofs.Places.{all_kept}

pub all_below : (count : ℕ) → All (λ place. place < count) (range_with_len 0 count)
all_below count k d within =
    let len = length-range_with_len 0 count in
    omega (arith, within, len, get_or-range_with_len 0 count k d (omega (arith, within, len)))

-- The places of a plan are places of components.
pub plan_places : {S F L : Type 0} (its_context : List ℕ) (app : WebApp) (parts : Parts S F L) (plan : Plan) → Fits app parts → IsPlan its_context app plan → All (IsPlaceIn parts) plan.order.items
plan_places its_context app parts plan fits is_plan =
    let servlets : length parts.servlets.items ≡ length app.servlets = same_length (λ named. named.name) (λ servlet. servlet.servlet_name) parts.servlets.items app.servlets fits.servlets in
    let filters : length parts.filters.items ≡ length app.filters = same_length (λ named. named.name) (λ filter. filter.filter_name) parts.filters.items app.filters fits.filters in
    let below : All (λ place. place < length app.servlets) is_plan.loaded =
    All-permutation (λ place. place < length app.servlets) (range_with_len 0 (length app.servlets)) is_plan.loaded is_plan.is_order.each_once (all_below (length app.servlets)) in
    subst (All (IsPlaceIn parts)) (sym is_plan.order)
    (All-append (IsPlaceIn parts) (map places.Filter (range_with_len 0 (length app.filters))) (map places.Servlet is_plan.loaded)
    (All-map (IsPlaceIn parts) places.Filter (range_with_len 0 (length app.filters)) (λ k d within. omega (arith, filters, all_below (length app.filters) k d within)))
    (All-map (IsPlaceIn parts) places.Servlet is_plan.loaded (λ k d within. omega (arith, servlets, below k d within))))

pub plan_standings : {S F L : Type 0} (its_context : List ℕ) (app : WebApp) (parts after : Parts S F L) (plan : Plan) → Fits app parts → IsPlan its_context app plan → HasSameCounts parts after
    → length after.servlets.items ≡ length app.servlets
plan_standings its_context app parts after plan fits is_plan counts =
    counts.servlets ∙ same_length (λ named. named.name) (λ servlet. servlet.servlet_name) parts.servlets.items app.servlets fits.servlets

-- Initialized components exist.
pub initialised_there : (P : Place → Type 0) (order : List Place) (begun more : List Answered) (left : List Place) → order ≡ places_of (begun ++ more) ++ left → All P order → All P (initialised begun)
initialised_there P order begun more left is there =
    let ready : Answered → Bool = λ answered. is_ready answered.answer in
    let front : order ≡ places_of begun ++ (places_of more ++ left) =
    is ∙ ap (λ f. f ++ left) (map-append (λ a. a.place) begun more) ∙ append_assoc (places_of begun) (places_of more) left in
    let each : All (λ answered. P answered.place) begun = λ k d within.
    let low = length-map begun (λ a. a.place) in
    subst P (ap (λ xs. get_or xs k d.place) front
    ∙ get_or_append_left (places_of begun) (places_of more ++ left) d.place k (omega (arith, within, low))
    ∙ get_or-map (λ a. a.place) begun k d d.place within)
    (there k d.place (omega (arith, within, low, ap length front, length-append (places_of begun) (places_of more ++ left)))) in
    All-map P (λ a. a.place) (filter ready begun) (All-filter ready (λ answered. P answered.place) begun each)

module _ {S F L : Type 0} (moving : ComponentSteps S F L) where
  -- No component was called.
  pub did_nothing : (its_context : List ℕ) (app : WebApp) (parts : Parts S F L) (noted : JournalState) (why : StartCode)
      → RefusesUntouched app parts why
      → Starts moving its_context app parts noted (Err (record { code = why; parts = parts })) noted
  did_nothing its_context app parts noted why refuses = record {
    outcome = Untouched;
    made = grows_none moving (world its_context parts noted);
    is = refuses;
  }

  -- The `init` calls of a plan are made in order.
  abbrev goes_in_order : (app : WebApp) (parts : Parts S F L) (plan : Plan) (noted : JournalState) (how_far : Begun) (after : Parts S F L) (plan_after : Plan) (noted_after : JournalState)
      → (is_plan : IsPlan plan.context app plan) (begins : Begins moving app parts plan noted how_far after plan_after noted_after)
      → GoesInOrder app (record { order = is_plan.loaded; begun = begins.begun; stopper = how_far.stopper })
  goes_in_order app parts plan noted how_far after plan_after noted_after is_plan begins = record {
    order = is_plan.is_order;
    left = begins.left;
    front = sym is_plan.order ∙ begins.front;
    begun = begins.goes;
    stopper = begins.stops;
  }

  -- The notifications and the `init` calls are one run.
  begin_calls : (app : WebApp) (parts told_parts : Parts S F L) (plan : Plan) (noted told_noted : JournalState) (how_far : Begun) (after : Parts S F L) (plan_after : Plan) (noted_after : JournalState)
      → Fits app parts
      → Runs moving (world plan.context parts noted) (told ContextInitialized (length parts.listeners.items)) (world plan.context told_parts told_noted)
      → (begins : Begins moving app told_parts plan told_noted how_far after plan_after noted_after)
      → Runs moving (world plan.context parts noted) (start_calls app (begins.begun ++ option_to_list how_far.stopper)) (world plan.context after noted_after)
  begin_calls app parts told_parts plan noted told_noted how_far after plan_after noted_after fits tells begins =
      grows_join moving (world plan.context parts noted) (world plan.context told_parts told_noted) (world plan.context after noted_after)
      (told ContextInitialized (length app.listeners)) (map (inited app) (begins.begun ++ option_to_list how_far.stopper))
      (subst (λ count. Runs moving (world plan.context parts noted) (told ContextInitialized count) (world plan.context told_parts told_noted)) fits.listeners tells)
      begins.made

  -- A start that succeeds.
  pub started : (app : WebApp) (parts told_parts : Parts S F L) (plan : Plan) (noted told_noted : JournalState) (how_far : Begun) (after : Parts S F L) (plan_after : Plan) (noted_after : JournalState)
      → (kept : List Place) → Fits app parts → IsPlan plan.context app plan → HasSameCounts parts after
      → Runs moving (world plan.context parts noted) (told ContextInitialized (length parts.listeners.items)) (world plan.context told_parts told_noted)
      → Begins moving app told_parts plan told_noted how_far after plan_after noted_after
      → how_far.stopper ≡ None → noted_after.whole ≡ true → kept ≡ take how_far.initialised plan_after.order.items
      → Starts moving plan.context app parts noted (Ok (record { context = plan_after.context; parts = after; initialised = kept; standings = plan_after.standings.items })) noted_after
  started app parts told_parts plan noted told_noted how_far after plan_after noted_after kept fits is_plan counts tells begins none is_whole is_kept =
      let all : begins.begun ++ option_to_list how_far.stopper ≡ begins.begun = ap (λ found. begins.begun ++ option_to_list found) none ∙ append-nil begins.begun in
      let rooms : length plan.standings.items ≡ length app.servlets = ap length is_plan.standings ∙ length-replicate (length app.servlets) Serving in
      record {
        outcome = Started (record { order = is_plan.loaded; begun = begins.begun; stopper = how_far.stopper });
        made = subst (λ begun. Runs moving (world plan.context parts noted) (start_calls app begun) (world plan.context after noted_after)) all
            (begin_calls app parts told_parts plan noted told_noted how_far after plan_after noted_after fits tells begins);
        is = (
          fits,
          record {
            goes = goes_in_order app told_parts plan told_noted how_far after plan_after noted_after is_plan begins;
            none_left = begins.whole none is_whole;
            none_failed = none;
            journal = is_whole;
            context = begins.context;
            servlets = counts.servlets ∙ same_length (λ named. named.name) (λ servlet. servlet.servlet_name) parts.servlets.items app.servlets fits.servlets;
            filters = counts.filters ∙ same_length (λ named. named.name) (λ filter. filter.filter_name) parts.filters.items app.filters fits.filters;
            listeners = counts.listeners ∙ fits.listeners;
            initialised = is_kept ∙ begins.kept;
            standings = λ place within. begins.standings place (omega (arith, within, rooms));
          },
        );
      }

not_ready : (place : Place) (answer : Init) → lets_go_on place answer ≡ false → is_ready answer ≡ false
not_ready place init_answers.Ready stops = absurd (cc)
not_ready place init_answers.Unavailable stops = refl
not_ready place init_answers.Failed stops = refl
not_ready place init_answers.NoMemory stops = refl

-- A component that stops the start is not initialized.
initialised_called : (begun : List Answered) (stopper : Option Answered) → IfSome stopper (λ answered. lets_go_on answered.place answered.answer ≡ false)
    → initialised (begun ++ option_to_list stopper) ≡ initialised begun
initialised_called begun None stops = ap initialised (append-nil begun)
initialised_called begun (Some answered) stops =
    initialised_push begun answered ∙ ap (λ b. initialised begun ++ places_of (cond b (answered ∷ []) [])) (not_ready answered.place answered.answer stops) ∙ append-nil (initialised begun)

stays_broken : (before after : Bool) → before ≡ false → (after ≡ true → before ≡ true) → after ≡ false
stays_broken before true broken was = absurd (cc (was refl))
stays_broken before false broken was = refl

module _ {S F L : Type 0} (moving : ComponentSteps S F L) where
  -- If a journal is whole after a run, it was whole before.
  was_whole : (before after : World S F L) (records : List Record) → Runs moving before records after → after.journal.whole ≡ true → before.journal.whole ≡ true
  was_whole before after records grows whole = ((run_gains moving before after records (runs_grown moving before after records grows)).all whole).0

  -- A start that is undone.
  pub undone : (app : WebApp) (parts told_parts : Parts S F L) (plan : Plan) (noted told_noted : JournalState) (how_far : Begun) (after : Parts S F L) (plan_after : Plan) (noted_after : JournalState)
      → (kept : List Place) (ended : Parts S F L) (noted_ended : JournalState) (why : StartCode) → Fits app parts → IsPlan plan.context app plan
      → Runs moving (world plan.context parts noted) (told ContextInitialized (length parts.listeners.items)) (world plan.context told_parts told_noted)
      → Begins moving app told_parts plan told_noted how_far after plan_after noted_after
      → Runs moving (world plan.context after noted_after) (stop_calls (length after.listeners.items) kept []) (world plan.context ended noted_ended)
      → length after.listeners.items ≡ length parts.listeners.items → kept ≡ take how_far.initialised plan_after.order.items
      → (how_far.stopper ≡ None → noted_after.whole ≡ false) → why ≡ code_of how_far.stopper noted_ended.whole
      → Starts moving plan.context app parts noted (Err (record { code = why; parts = ended })) noted_ended
  undone app parts told_parts plan noted told_noted how_far after plan_after noted_after kept ended noted_ended why fits is_plan tells begins ends count is_kept broken is_why =
      let all : List Answered = begins.begun ++ option_to_list how_far.stopper in
      let its_inits : Inits = record { order = is_plan.loaded; begun = begins.begun; stopper = how_far.stopper } in
      let places : kept ≡ initialised all = is_kept ∙ begins.kept ∙ sym (initialised_called begins.begun how_far.stopper begins.stops) in
      let stays : how_far.stopper ≡ None → noted_ended.whole ≡ false = λ none.
      stays_broken noted_after.whole noted_ended.whole (broken none)
      (was_whole (world plan.context after noted_after) (world plan.context ended noted_ended) (stop_calls (length after.listeners.items) kept []) ends) in
      record {
        outcome = Undone its_inits;
        made = grows_join moving (world plan.context parts noted) (world plan.context after noted_after) (world plan.context ended noted_ended)
            (start_calls app all) (stop_calls (length app.listeners) (initialised all) [])
            (begin_calls moving app parts told_parts plan noted told_noted how_far after plan_after noted_after fits tells begins)
            (subst (λ n. Runs moving (world plan.context after noted_after) (stop_calls n (initialised all) []) (world plan.context ended noted_ended)) (count ∙ fits.listeners)
            (subst (λ xs. Runs moving (world plan.context after noted_after) (stop_calls (length after.listeners.items) xs []) (world plan.context ended noted_ended)) places ends));
        is = (
          fits,
          goes_in_order moving app told_parts plan told_noted how_far after plan_after noted_after is_plan begins,
          record { is_code = is_why; has_cause = stays },
        );
      }

pub none_from : {A : Type 0} (found : Option A) (none : Bool) → is_some found ≡ not none → none ≡ true → found ≡ None
none_from None none is is_none = refl
none_from (Some a) none is is_none = absurd (cc (is ∙ ap not is_none))

pub not_none_from : {A P : Type 0} (found : Option A) (none : Bool) → is_some found ≡ not none → none ≡ false → found ≡ None → P
not_none_from found none is is_none same = absurd (cc (sym (ap is_some same) ∙ is ∙ ap not is_none))

-- A plan is a plan for its own context.
pub own_plan : (its_context : List ℕ) (app : WebApp) (plan : Plan) → IsPlan its_context app plan → IsPlan plan.context app plan
own_plan its_context app plan is_plan = record {
  loaded = is_plan.loaded;
  is_order = is_plan.is_order;
  order = is_plan.order;
  configs = is_plan.configs;
  standings = is_plan.standings;
  context = refl;
}

module _ {S F L : Type 0} (moving : ComponentSteps S F L) where
  -- Initialized components exist, and each servlet has an availability.
  pub kept_there : (app : WebApp) (parts told_parts : Parts S F L) (plan : Plan) (noted : JournalState) (how_far : Begun) (after : Parts S F L) (plan_after : Plan) (noted_after : JournalState)
      → (kept : List Place) → Fits app parts → IsPlan plan.context app plan → HasSameCounts parts after
      → Begins moving app told_parts plan noted how_far after plan_after noted_after → kept ≡ take how_far.initialised plan_after.order.items
      → All (IsPlaceIn after) kept × (length plan_after.standings.items ≡ length after.servlets.items)
  kept_there app parts told_parts plan noted how_far after plan_after noted_after kept fits is_plan counts begins is_kept =
      let all = plan_places plan.context app parts plan fits is_plan in
      let begun = initialised_there (IsPlaceIn parts) plan.order.items begins.begun (option_to_list how_far.stopper) begins.left begins.front all in (
        subst (All (IsPlaceIn after)) (sym (is_kept ∙ begins.kept)) (all_kept parts after counts (initialised begins.begun) begun),
        begins.rooms ∙ ap length is_plan.standings ∙ length-replicate (length app.servlets) Serving ∙ sym (plan_standings plan.context app parts after plan fits is_plan counts),
      )
