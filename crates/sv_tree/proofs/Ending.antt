-- The outcome of a dispatch, and the error that is kept.
use Rattle.std.specs.Prelude.{codes, decimal, length}
use Rattle.std.proofs.Common.{◌≡◌, inl, inr, ℕ, zero, suc, ◌-◌, Bool, true, false, List, [], ◌∷◌, Option, None, Some, Result, Ok, Err, refl, sym, ap, ◌∙◌, subst}
use Rattle.sv_component.specs.Runs.{Record}
use Rattle.sv_component.specs.declared.answers.Gate.{Gate}
use Rattle.sv_component.specs.declared.answers.Gate.TheVariants as gates
use Rattle.sv_component.specs.declared.answers.Step.{Step}
use Rattle.sv_component.specs.declared.answers.Step.TheVariants as steps
use Rattle.sv_exchange.specs.Changing.{SetHeader, SetStatus, Write, has_room}
use Rattle.sv_exchange.specs.Dispatches.{Leaves, is_within_include}
use Rattle.sv_mapping.specs.declared.kind.Kind.{Kind}
use Rattle.sv_mapping.specs.declared.kind.Kind.TheVariants as kinds
use Rattle.sv_tree.specs.Asking.{asks}
use Rattle.sv_tree.specs.Does.{Does, ◌>>=◌, ◌>>◌, becomes, choose, gives, leaves, makes, refuses, tries, wants_memory}
use Rattle.sv_tree.specs.Endings as endings
use Rattle.sv_tree.specs.Endings.{error_status}
use Rattle.sv_tree.specs.Faults.{fault_name}
use Rattle.sv_tree.specs.Files as files
use Rattle.sv_tree.specs.Filters as filters
use Rattle.sv_tree.specs.Filters.{Reached, after_of, before_of}
use Rattle.sv_tree.specs.Laws.{EndingsAreKept, GoesWith, IncludesEndInNoError, KeepsEnding, KeepsRequest, is_error}
use Rattle.sv_tree.specs.Site.{Resource, Servlet, Files, FileAnswer, File, Redirect, Missing, NotAllowed, Site, begun, chosen, name_of}
use Rattle.sv_tree.specs.State.{Exchange, KeptError, KeptField, State, Standing, Serving, Gone, Away, away_for, counted, is_full, on_exchange, standing_at, with_exchange, with_kept}
use Rattle.sv_tree.specs.Tree as tree
use Rattle.sv_tree.specs.Tree.{Tree, asked_for, destroys, last, service_of}
use Rattle.sv_tree.specs.declared.finished.DispatchFault.{DispatchFault}
use Rattle.sv_tree.specs.declared.finished.DispatchFault.TheVariants.{DispatchLimit, MissingInclude, TooLarge}
use Rattle.sv_tree.specs.declared.finished.Finished.{Finished}
use Rattle.sv_tree.specs.declared.finished.Finished.TheVariants.{Done, Error, Failed}
use Rattle.sv_tree.specs.declared.limits.TheConstants.{FOUND, INTERNAL_SERVER_ERROR, METHOD_NOT_ALLOWED, NOT_FOUND, SERVICE_UNAVAILABLE}
use Rattle.sv_tree.proofs.Changing.{changes_account, left_account, still_within, unchanged, within_begun, within_left}
use Rattle.sv_tree.proofs.Doing.{absurd_result, chosen_then, same_result, tries_then}
use Rattle.sv_tree.proofs.Keeping.{inside_keeps, within_keeps}
use Rattle.sv_tree.proofs.Nesting.{Shows, filters_show, shows}
use Rattle.sv_uri.specs.declared.path.Canon.{Canon}
use Rattle.sv_message.specs.Phrases.{phrase_of}

-- The error that is kept when one is raised.
abbrev kept_as : Site → Resource → ℕ → List ℕ → Option KeptField → KeptError
kept_as site resource status text field = record { status = status; text = text; servlet = Some (name_of site resource); field = field }

module _ (site : Site) (P : State → Finished → Type 0) where
  -- A property of a dispatch's outcome: it holds when the outcome arises, and until the dispatch ends.
  pub record Settles : Type 0 where
    pub done : (x : State) → P x Done
    pub fails : (x : State) (resource : Resource) (kind text : List ℕ) → P (with_kept (kept_as site resource INTERNAL_SERVER_ERROR text None) x) (Failed kind text)
    pub errs : (x : State) (resource : Resource) (status : ℕ) (text : List ℕ) (field : Option KeptField) → GoesWith status field
        → is_within_include x.exchange ≡ false
        → P (with_kept (kept_as site resource status text field) x) (Error status text)
    pub stays : (x y : State) (finished : Finished) → y.exchange.kept ≡ x.exchange.kept → y.exchange.dispatches ≡ x.exchange.dispatches → P x finished → P y finished
    pub leaves : (x : State) (z : Exchange) (finished : Finished) → Leaves x.exchange z → P x finished → P (with_exchange z x) finished

  abbrev Ends : Does Finished → Type 0
  Ends does = (x y : State) (r : List Record) (finished : Finished) → does x r y (Some finished) → P y finished

  -- The same for an outcome that may be missing.
  abbrev EndsIn : State → Option Finished → Type 0
  EndsIn y None = Unit {0}
  EndsIn y (Some finished) = P y finished

  abbrev TurnEnds : Does (Option Finished) → Type 0
  TurnEnds does = (x y : State) (r : List Record) (ended : Option Finished) → does x r y (Some ended) → EndsIn y ended

  abbrev FiltersEnd : Does Reached → Type 0
  FiltersEnd does = (x y : State) (r : List Record) (reached : Reached) → does x r y (Some reached) → EndsIn y reached.ended

  given_ends : (value : Finished) (x y : State) (r : List Record) (finished : Finished) → P x value → gives value x r y (Some finished) → P y finished
  given_ends value x y r finished h given = subst (λ s. P s finished) (sym given.1) (subst (P x) (sym (same_result finished value given.2)) h)

  given_turn : (value : Option Finished) (x y : State) (r : List Record) (ended : Option Finished) → EndsIn x value → gives value x r y (Some ended) → EndsIn y ended
  given_turn value x y r ended h given = subst (λ s. EndsIn s ended) (sym given.1) (subst (EndsIn x) (sym (same_result ended value given.2)) h)

  then_ends : {A : Type 0} (first : Does A) (next : A → Does Finished) → ((value : A) → Ends (next value)) → Ends (first >>= next)
  then_ends first next h x y r finished (inl t) = h t.given t.between y t.back finished t.goes_on
  then_ends first next h x y r finished (inr t) = absurd_result finished (sym t.1)

  then_turn : {A : Type 0} (first : Does A) (next : A → Does (Option Finished)) → ((value : A) → TurnEnds (next value)) → TurnEnds (first >>= next)
  then_turn first next h x y r ended (inl t) = h t.given t.between y t.back ended t.goes_on
  then_turn first next h x y r ended (inr t) = absurd_result ended (sym t.1)

  kept_ends : (kept : KeptError) (value : Finished) (x y : State) (r : List Record) (finished : Finished) → P (with_kept kept x) value
      → (endings.keeps kept >> gives value) x r y (Some finished) → P y finished
  kept_ends kept value x y r finished h does =
      elim (tries_then (with_kept kept) (λ _. gives value) x y r (Some finished) does) [
        | inl done ↦ given_ends value (with_kept kept x) y r finished h done
        | inr not ↦ absurd_result finished (sym not.2)
      ]

  last_ends : (ending : Does Finished) → Ends ending → TurnEnds (last ending)
  last_ends ending h x y r ended (inl t) = given_turn (Some t.given) t.between y t.back ended (h x t.between t.front t.given t.begins) t.goes_on
  last_ends ending h x y r ended (inr t) = absurd_result ended (sym t.1)

  behind_ends : (passed : List ℕ) (ending : Does Finished) → Ends ending → FiltersEnd (filters.ends_behind passed ending)
  behind_ends passed ending h x y r reached (inl t) =
      subst (λ s. EndsIn s reached.ended) (sym t.goes_on.1)
      (subst (λ reached. EndsIn t.between reached.ended) (sym (same_result reached (record { passed = passed; ended = Some t.given }) t.goes_on.2))
      (h x t.between t.front t.given t.begins))
  behind_ends passed ending h x y r reached (inr t) = absurd_result reached (sym t.1)

  goes_on_ends : (value : Finished) (x y : State) (r : List Record) (ended : Option Finished) → P x value → tree.GoesOn value x r y (Some ended) → EndsIn y ended
  goes_on_ends Done x y r ended h given = given_turn None x y r ended tt given
  goes_on_ends (Error status text) x y r ended h given = given_turn None x y r ended tt given
  goes_on_ends (Failed kind text) x y r ended h given = given_turn (Some (Failed kind text)) x y r ended h given

  module _ (law : Settles) where
    done_ends : Ends (gives Done)
    done_ends x y r finished h = given_ends Done x y r finished (law.done x) h

    fails_ends : (resource : Resource) (kind text : List ℕ) → Ends (endings.fails site resource kind text)
    fails_ends resource kind text x y r finished h =
        kept_ends (kept_as site resource INTERNAL_SERVER_ERROR text None) (Failed kind text) x y r finished (law.fails x resource kind text) h

    faults_ends : (resource : Resource) (fault : DispatchFault) → Ends (endings.faults site resource fault)
    faults_ends resource fault = fails_ends resource (fault_name fault) (fault_name fault)

    errs_ends : (resource : Resource) (status : ℕ) (text : List ℕ) (field : Option KeptField) → GoesWith status field
        → Ends (endings.errs site resource status text field)
    errs_ends resource status text field goes x y r finished h =
        let kept = kept_as site resource status text field in
        chosen_then (is_within_include x.exchange) (gives Done) (endings.keeps kept >> gives (Error status text)) x y r (Some finished)
        (λ _ done. done_ends x y r finished done)
        (λ outside done. kept_ends kept (Error status text) x y r finished (law.errs x resource status text field goes outside) done) h

    missing_ends : (resource : Resource) → Ends (endings.is_missing site resource)
    missing_ends resource = errs_ends resource NOT_FOUND (phrase_of NOT_FOUND) None tt

    away_ends : (resource : Resource) (seconds : ℕ) → Ends (endings.is_away_for site resource seconds)
    away_ends resource seconds =
        errs_ends resource SERVICE_UNAVAILABLE (phrase_of SERVICE_UNAVAILABLE) (Some record { name = codes "retry-after"; value = decimal seconds })
        (inr (refl, refl, (seconds, refl)))

    sends_ends : (content_type bytes : List ℕ) → Ends (files.Sends site content_type bytes)
    sends_ends content_type bytes =
        then_ends (makes (SetHeader (codes "content-type") content_type))
        (λ _ state. choose (has_room (length bytes) state.exchange) (makes (Write bytes) >> gives Done) (endings.faults site Files TooLarge) state)
        (λ _ x y r finished h. chosen_then (has_room (length bytes) x.exchange) (makes (Write bytes) >> gives Done) (endings.faults site Files TooLarge) x y r (Some finished)
        (λ _ done. then_ends (makes (Write bytes)) (λ _. gives Done) (λ _. done_ends) x y r finished done)
        (λ _ done. faults_ends Files TooLarge x y r finished done) h)

    sends_to_ends : (location : List ℕ) → Ends (files.SendsTo site location)
    sends_to_ends location =
        let found = makes (SetStatus FOUND) in
        let located = makes (SetHeader (codes "location") location) in
        then_ends (becomes (on_exchange files.emptied)) (λ _. found >> (located >> gives Done))
        (λ _. then_ends found (λ _. located >> gives Done) (λ _. then_ends located (λ _. gives Done) (λ _. done_ends)))

    misses_ends : (kind : Kind) → Ends (files.Misses site kind)
    misses_ends kinds.Include = faults_ends Files MissingInclude
    misses_ends kinds.Request = missing_ends Files
    misses_ends kinds.Forward = missing_ends Files
    misses_ends kinds.Error = missing_ends Files

    filed_ends : (kind : Kind) (answer : FileAnswer) → Ends (files.Filed site kind answer)
    filed_ends kind (File content_type bytes) = sends_ends content_type bytes
    filed_ends kind (Redirect location) = sends_to_ends location
    filed_ends kind Missing = misses_ends kind
    filed_ends kind NotAllowed =
        errs_ends Files METHOD_NOT_ALLOWED (phrase_of METHOD_NOT_ALLOWED) (Some record { name = codes "allow"; value = codes "GET, HEAD" })
        (inl (refl, refl, refl))

    gated_ends : (resource : Resource) (passed : List ℕ) (gate : Gate) (next : Does Reached) → FiltersEnd next → FiltersEnd (filters.Gated site resource passed gate next)
    gated_ends resource passed gates.Pass next h = h
    gated_ends resource passed gates.Stop next h = behind_ends passed (gives Done) done_ends
    gated_ends resource passed (gates.Failed kind text) next h = behind_ends passed (endings.fails site resource kind text) (fails_ends resource kind text)
    gated_ends resource passed gates.NoMemory next h = λ x y r reached done. absurd_result reached (sym done.2)

    then_filters : {A : Type 0} (first : Does A) (next : A → Does Reached) → ((value : A) → FiltersEnd (next value)) → FiltersEnd (first >>= next)
    then_filters first next h x y r reached (inl t) = h t.given t.between y t.back reached t.goes_on
    then_filters first next h x y r reached (inr t) = absurd_result reached (sym t.1)

    befores_end : (resource : Resource) (passed chain : List ℕ) → FiltersEnd (filters.Befores site resource passed chain)
    befores_end resource passed [] x y r reached h =
        subst (λ reached. EndsIn y reached.ended) (sym (same_result reached (record { passed = passed; ended = None }) h.2)) tt
    befores_end resource passed (filter ∷ chain) x y r reached h =
        let next = filters.Befores site resource (filter ∷ passed) chain in
        let ending = endings.faults site resource DispatchLimit in
        let call = (asks site.listeners (before_of filter) >>= λ gate. filters.Gated site resource passed gate next) in
        chosen_then (is_full x) (filters.ends_behind passed ending) (becomes counted >> call) x y r (Some reached)
        (λ _ full. behind_ends passed ending (faults_ends resource DispatchLimit) x y r reached full)
        (λ _ made. then_filters (becomes counted) (λ _. call)
        (λ _. then_filters (asks site.listeners (before_of filter)) (λ gate. filters.Gated site resource passed gate next)
        (λ gate. gated_ends resource passed gate next (befores_end resource (filter ∷ passed) chain))) x y r reached made) h

    module _ (room : ℕ) (inner : Kind → Canon → Does Finished) (inner_ends : (kind : Kind) (canon : Canon) → Ends (inner kind canon)) where
      admitted_ends : (place : ℕ) (kind : Kind) (given : Result Canon DispatchFault) → Ends (tree.Admitted site room inner place kind given)
      admitted_ends place kind (Ok canon) = inner_ends kind canon
      admitted_ends place kind (Err fault) = faults_ends (Servlet place) fault

      dispatches_ends : (place : ℕ) (kind : Kind) (text : List ℕ) → Ends (tree.Dispatches site room inner place kind text)
      dispatches_ends place kind text =
          then_ends wants_memory (λ _ state. tree.Admitted site room inner place kind (asked_for room kind text state.exchange) state)
          (λ _ x y r finished h. admitted_ends place kind (asked_for room kind text x.exchange) x y r finished h)

      included_ends : (place : ℕ) (text : List ℕ) → TurnEnds (tree.Dispatches site room inner place kinds.Include text >>= tree.GoesOn)
      included_ends place text x y r ended (inl t) =
          goes_on_ends t.given t.between y t.back ended (dispatches_ends place kinds.Include text x t.between t.front t.given t.begins) t.goes_on
      included_ends place text x y r ended (inr t) = absurd_result ended (sym t.1)

      stepped_ends : (place : ℕ) (step : Step) → TurnEnds (tree.Stepped site room inner place step)
      stepped_ends place steps.Done = last_ends (gives Done) done_ends
      stepped_ends place (steps.Forward text) = last_ends (tree.Dispatches site room inner place kinds.Forward text) (dispatches_ends place kinds.Forward text)
      stepped_ends place (steps.Include text) = included_ends place text
      stepped_ends place (steps.Error code text) =
          last_ends (endings.errs site (Servlet place) (error_status code) text None) (errs_ends (Servlet place) (error_status code) text None tt)
      stepped_ends place (steps.Failed kind text) = last_ends (endings.fails site (Servlet place) kind text) (fails_ends (Servlet place) kind text)
      stepped_ends place (steps.Unavailable None) =
          then_turn (destroys place) (λ _. last (endings.is_missing site (Servlet place))) (λ _. last_ends (endings.is_missing site (Servlet place)) (missing_ends (Servlet place)))
      stepped_ends place (steps.Unavailable (Some seconds)) =
          then_turn (becomes (away_for place seconds)) (λ _. last (endings.is_away_for site (Servlet place) seconds))
          (λ _. last_ends (endings.is_away_for site (Servlet place) seconds) (away_ends (Servlet place) seconds))
      stepped_ends place steps.NoMemory = λ x y r ended done. absurd_result ended (sym done.2)

      stands_ends : (place moment : ℕ) (standing : Standing) (next : Does (Option Finished)) → TurnEnds next → TurnEnds (tree.Stands site room inner place moment standing next)
      stands_ends place moment Serving next h = h
      stands_ends place moment Gone next h = last_ends (endings.is_missing site (Servlet place)) (missing_ends (Servlet place))
      stands_ends place moment (Away until) next h = last_ends (endings.is_away_for site (Servlet place) (until - moment)) (away_ends (Servlet place) (until - moment))

      turn_ends : (place turn : ℕ) → TurnEnds (tree.Turn site room inner place turn)
      turn_ends place turn x y r ended h =
          let serve = (asks site.listeners (service_of place turn) >>= tree.Stepped site room inner place) in
          let limit = last (endings.faults site (Servlet place) DispatchLimit) in
          stands_ends place x.exchange.moment (standing_at x.exchange.moment place x.standings) (filters.within_limit limit serve)
          (λ x y r ended h. chosen_then (is_full x) limit (becomes counted >> serve) x y r (Some ended)
          (λ _ full. last_ends (endings.faults site (Servlet place) DispatchLimit) (faults_ends (Servlet place) DispatchLimit) x y r ended full)
          (λ _ made. then_turn (becomes counted) (λ _. serve)
          (λ _. then_turn (asks site.listeners (service_of place turn)) (tree.Stepped site room inner place) (λ step. stepped_ends place step)) x y r ended made) h)
          x y r ended h

      continued_ends : (ended : Option Finished) (next : Does Finished) → Ends next
          → (x y : State) (r : List Record) (finished : Finished) → EndsIn x ended → tree.Continues site room inner ended next x r y (Some finished) → P y finished
      continued_ends (Some result) next h x y r finished kept given = given_ends result x y r finished kept given
      continued_ends None next h x y r finished kept done = h x y r finished done

      turns_end : (place left turn : ℕ) → Ends (tree.Turns site room inner place left turn)
      turns_end place zero turn x y r finished h = absurd h
      turns_end place (suc left) turn x y r finished (inl t) =
          continued_ends t.given (tree.Turns site room inner place left (suc turn)) (turns_end place left (suc turn)) t.between y t.back finished
          (turn_ends place turn x t.between t.front t.given t.begins) t.goes_on
      turns_end place (suc left) turn x y r finished (inr t) = absurd_result finished (sym t.1)

      responds_ends : (resource : Resource) (kind : Kind) (canon : Canon) (ended : Option Finished)
          → (x y : State) (r : List Record) (finished : Finished) → EndsIn x ended
          → tree.Responds site room inner resource kind canon ended x r y (Some finished) → P y finished
      responds_ends resource kind canon (Some result) x y r finished kept h = given_ends result x y r finished kept h
      responds_ends (Servlet place) kind canon None x y r finished kept h = turns_end place h.0 0 x y r finished h.1
      responds_ends Files kind canon None x y r finished kept h =
          then_ends wants_memory (λ _ state. files.Filed site kind (site.file canon state.exchange.method kind) state)
          (λ _ x y r finished h. filed_ends kind (site.file canon x.exchange.method kind) x y r finished h) x y r finished h

      afters_same : (chain : List ℕ) (x y : State) (r : List Record) (given : Unit {0}) → filters.Afters site.listeners chain x r y (Some given)
          → (y.exchange.kept ≡ x.exchange.kept) × (y.exchange.dispatches ≡ x.exchange.dispatches)
      afters_same [] x y r given h = (ap (λ s. s.exchange.kept) h.1, ap (λ s. s.exchange.dispatches) h.1)
      afters_same (filter ∷ chain) x y r given (inr t) = absurd_result given (sym t.1)
      afters_same (filter ∷ chain) x y r given (inl t) =
          let rest = chosen_then t.given (filters.Afters site.listeners chain) refuses t.between y t.back (Some given)
          (λ _ on. afters_same chain t.between y t.back given on) (λ _ ended. absurd_result given (sym ended.2)) t.goes_on in (
            rest.0 ∙ (ap (λ s. s.exchange.kept) t.begins.is ∙ (changes_account x.exchange t.begins.exchange t.begins.changes).1),
            rest.1 ∙ (ap (λ s. s.exchange.dispatches) t.begins.is ∙ (unchanged x.exchange t.begins.exchange t.begins.changes).0.dispatches),
          )

      closed_ends : (chain : List ℕ) (value : Finished) (x y : State) (r : List Record) (finished : Finished) → P x value
          → (filters.Afters site.listeners chain >> gives value) x r y (Some finished) → P y finished
      closed_ends chain value x y r finished h (inr t) = absurd_result finished (sym t.1)
      closed_ends chain value x y r finished h (inl t) =
          let same = afters_same chain x t.between t.front t.given t.begins in
          given_ends value t.between y t.back finished (law.stays x t.between value same.0 same.1 h) t.goes_on

      behind_filters : (resource : Resource) (kind : Kind) (canon : Canon) (reached : Reached) (x y : State) (r : List Record) (finished : Finished) → EndsIn x reached.ended
          → (tree.Responds site room inner resource kind canon reached.ended >>= λ result. filters.Afters site.listeners reached.passed >> gives result) x r y (Some finished) → P y finished
      behind_filters resource kind canon reached x y r finished kept (inr t) = absurd_result finished (sym t.1)
      behind_filters resource kind canon reached x y r finished kept (inl t) =
          closed_ends reached.passed t.given t.between y t.back finished
          (responds_ends resource kind canon reached.ended x t.between t.front t.given kept t.begins) t.goes_on

      within_ends : (resource : Resource) (kind : Kind) (canon : Canon) → Ends (tree.Within site room inner resource kind canon)
      within_ends resource kind canon =
          let chain = site.chain canon.path (name_of site resource) kind in
          then_ends wants_memory
          (λ _. filters.Befores site resource [] chain
          >>= λ reached. tree.Responds site room inner resource kind canon reached.ended >>= λ result. filters.Afters site.listeners reached.passed >> gives result)
          (λ _ x y r finished h. opened chain x y r finished h)
        where
          opened : (chain : List ℕ) (x y : State) (r : List Record) (finished : Finished)
              → (filters.Befores site resource [] chain
              >>= λ reached. tree.Responds site room inner resource kind canon reached.ended >>= λ result. filters.Afters site.listeners reached.passed >> gives result) x r y (Some finished)
              → P y finished
          opened chain x y r finished (inr t) = absurd_result finished (sym t.1)
          opened chain x y r finished (inl t) =
              behind_filters resource kind canon t.given t.between y t.back finished (befores_end resource [] chain x t.between t.front t.given t.begins) t.goes_on

      left_ends : (value : Finished) (x y : State) (r : List Record) (finished : Finished) → P x value → (leaves >> gives value) x r y (Some finished) → P y finished
      left_ends value x y r finished h (inr t) = absurd_result finished (sym t.1)
      left_ends value x y r finished h (inl t) =
          given_ends value t.between y t.back finished (subst (λ s. P s value) (sym t.begins.3) (law.leaves x t.begins.0 value t.begins.1 h)) t.goes_on

      dispatch_ends : (kind : Kind) (canon : Canon) → Ends (tree.Dispatch site room inner kind canon)
      dispatch_ends kind canon =
          then_ends (tries (on_exchange (begun site kind canon)))
          (λ _. tree.Within site room inner (chosen site canon.path).resource kind canon >>= λ finished. leaves >> gives finished)
          (λ _ x y r finished h. opened x y r finished h)
        where
          opened : (x y : State) (r : List Record) (finished : Finished)
              → (tree.Within site room inner (chosen site canon.path).resource kind canon >>= λ finished. leaves >> gives finished) x r y (Some finished) → P y finished
          opened x y r finished (inr t) = absurd_result finished (sym t.1)
          opened x y r finished (inl t) =
              left_ends t.given t.between y t.back finished (within_ends (chosen site canon.path).resource kind canon x t.between t.front t.given t.begins) t.goes_on

    pub tree_ends : (room : ℕ) (kind : Kind) (canon : Canon) → Ends (Tree site room kind canon)
    unfolding Tree
    tree_ends zero kind canon = λ x y r finished h. absurd h
    tree_ends (suc room) kind canon = dispatch_ends room (Tree site room) (tree_ends room) kind canon

    -- Derives a property of the outcome from the state just before the dispatch ends.
    pub inside_ends : (R : Finished → Type 0) (room : ℕ) (kind : Kind) (canon : Canon) (x y : State) (r : List Record) (finished : Finished)
        → ((between : State) → KeepsRequest (begun site kind canon x.exchange) between.exchange → P between finished → R finished)
        → Tree site room kind canon x r y (Some finished) → R finished
    unfolding Tree
    inside_ends R zero kind canon x y r finished from h = absurd h
    inside_ends R (suc room) kind canon x y r finished from h =
        elim (tries_then (on_exchange (begun site kind canon))
        (λ _. tree.Within site room (Tree site room) (chosen site canon.path).resource kind canon >>= λ finished. leaves >> gives finished) x y r (Some finished) h) [
          | inr not ↦ absurd_result finished (sym not.2)
          | inl (inr t) ↦ absurd_result finished (sym t.1)
          | inl (inl t) ↦ let same = same_end t.given t.between y t.back t.goes_on in
              from t.between
              (inside_keeps site Shows (shows site) (within_keeps site Shows (shows site) (filters_show site)) room kind canon
              (on_exchange (begun site kind canon) x) t.between t.front (Some t.given) t.begins refl)
              (subst (P t.between) (sym same) (within_ends room (Tree site room) (tree_ends room) (chosen site canon.path).resource kind canon
              (on_exchange (begun site kind canon) x) t.between t.front t.given t.begins))
        ]
      where
        same_end : (value : Finished) (x y : State) (r : List Record) → (leaves >> gives value) x r y (Some finished) → finished ≡ value
        same_end value x y r (inr t) = absurd_result finished (sym t.1)
        same_end value x y r (inl t) = same_result finished value t.goes_on.2

-- An include ends in no error.
abbrev NoError : State → Finished → Type 0
NoError x finished = is_within_include x.exchange ≡ true → is_error finished ≡ false

outside_within : {P : Type 0} (within : Bool) → within ≡ false → within ≡ true → P
outside_within true h e = cc
outside_within false h e = cc

no_error : (site : Site) → Settles site NoError
no_error site = record {
  done = λ x within. refl;
  fails = λ x resource kind text within. refl;
  errs = λ x resource status text field goes outside within. outside_within (is_within_include x.exchange) outside within;
  stays = λ x y finished kept same h within. h (still_within y.exchange x.exchange (sym same) within);
  leaves = λ x z finished left h within. h (within_left x.exchange z left within);
}

pub includes_end_in_no_error : (site : Site) → IncludesEndInNoError site
includes_end_in_no_error site room kind canon x y r finished included h =
    inside_ends site NoError (no_error site) (λ finished. is_error finished ≡ false) room kind canon x y r finished
    (λ between same ends. ends (still_within (begun site kind canon x.exchange) between.exchange same.dispatches (within_begun site kind canon x.exchange included))) h

-- The error that is kept is that of the outcome.
abbrev IsEndKept : Site → State → Finished → Type 0
IsEndKept site x finished = KeepsEnding site finished x.exchange.kept

end_kept : (site : Site) → Settles site (IsEndKept site)
end_kept site = record {
  done = λ x. tt;
  fails = λ x resource kind text. (refl, refl, (resource, refl), tt);
  errs = λ x resource status text field goes outside. (refl, refl, (resource, refl), goes);
  stays = λ x y finished kept same h. subst (KeepsEnding site finished) (sym kept) h;
  leaves = λ x z finished left h. subst (KeepsEnding site finished) (sym (left_account x.exchange z left).1) h;
}

pub endings_are_kept : (site : Site) → EndingsAreKept site
endings_are_kept site room kind canon x y r finished h = tree_ends site (IsEndKept site) (end_kept site) room kind canon x y r finished h
