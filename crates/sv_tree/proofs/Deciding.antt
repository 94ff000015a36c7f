-- The calls of a dispatch determine its outcome.
use Rattle.std.specs.Prelude.{codes, decimal, length}
use Rattle.std.proofs.Common.{◌≡◌, inl, inr, ℕ, zero, suc, ◌-◌, Bool, true, false, List, [], ◌∷◌, ◌++◌, Option, None, Some, Result, Ok, Err, refl, sym, ap, ◌∙◌, subst}
use Rattle.std.proofs.lemmas.List.{append_assoc, append_cancel_left}
use Rattle.sv_component.specs.Runs.{Record}
use Rattle.sv_component.specs.declared.answers.Gate.{Gate}
use Rattle.sv_component.specs.declared.answers.Gate.TheVariants as gates
use Rattle.sv_component.specs.declared.answers.Step.{Step}
use Rattle.sv_component.specs.declared.answers.Step.TheVariants as steps
use Rattle.sv_exchange.specs.Changing.{Change, SetHeader, SetStatus, Write, answer, has_room, left_by}
use Rattle.sv_exchange.specs.Dispatches.{Leaves, is_within_include}
use Rattle.sv_mapping.specs.declared.kind.Kind.{Kind}
use Rattle.sv_mapping.specs.declared.kind.Kind.TheVariants as kinds
use Rattle.sv_tree.specs.Asking.{asks, without_events}
use Rattle.sv_tree.specs.Does.{Does, ◌>>=◌, ◌>>◌, becomes, choose, gives, leaves, makes, refuses, tries, wants_memory}
use Rattle.sv_tree.specs.Endings as endings
use Rattle.sv_tree.specs.Endings.{error_status}
use Rattle.sv_tree.specs.Faults.{fault_name}
use Rattle.sv_tree.specs.Files as files
use Rattle.sv_tree.specs.Filters as filters
use Rattle.sv_tree.specs.Filters.{Reached, after_of, before_of}
use Rattle.sv_tree.specs.Laws.{CallsDecide}
use Rattle.sv_tree.specs.Site.{Resource, Servlet, Files, FileAnswer, File, Redirect, Missing, NotAllowed, Site, begun, chosen, name_of}
use Rattle.sv_tree.specs.State.{Exchange, KeptError, KeptField, State, Standing, Serving, Gone, Away, away_for, counted, is_full, on_exchange, standing_at, with_exchange, with_kept}
use Rattle.sv_tree.specs.Telling.{all_told}
use Rattle.sv_tree.specs.Tree as tree
use Rattle.sv_tree.specs.Tree.{Tree, asked_for, destroys, last, service_of}
use Rattle.sv_tree.specs.declared.finished.DispatchFault.{DispatchFault}
use Rattle.sv_tree.specs.declared.finished.DispatchFault.TheVariants.{DispatchLimit, MissingInclude, TooLarge}
use Rattle.sv_tree.specs.declared.finished.Finished.{Finished}
use Rattle.sv_tree.specs.declared.finished.Finished.TheVariants.{Done, Error, Failed}
use Rattle.sv_tree.specs.declared.limits.TheConstants.{FOUND, INTERNAL_SERVER_ERROR, METHOD_NOT_ALLOWED, NOT_FOUND, SERVICE_UNAVAILABLE}
use Rattle.sv_tree.proofs.Changing.{without_added, without_last}
use Rattle.sv_tree.proofs.Doing.{absurd_result, same_result}
use Rattle.sv_uri.specs.declared.path.Canon.{Canon}
use Rattle.sv_message.specs.Phrases.{phrase_of}

record Alike {A : Type 0} (r r' : List Record) (y y' : State) (a a' : A) : Type 0 where
  calls : r ≡ r'
  states : y ≡ y'
  results : a ≡ a'

-- From one state, the calls determine the result and the final state. Two runs whose calls are prefixes of the same
-- list make the same calls.
abbrev DecidesAt : {A : Type 0} → State → Does A → Does A → Type 0
DecidesAt {A} x does also = (y y' : State) (r r' s s' : List Record) (a a' : A) → does x r y (Some a) → also x r' y' (Some a') → r ++ s ≡ r' ++ s' → Alike r r' y y' a a'

abbrev Decides : {A : Type 0} → Does A → Type 0
Decides {A} does = (x : State) → DecidesAt x does does

same_head : (c c' : Record) (s s' : List Record) → c ∷ s ≡ c' ∷ s' → c ≡ c'
same_head c c' s s' e = cc

gives_decides : {A : Type 0} (value : A) → Decides (gives value)
gives_decides value x y y' r r' s s' a a' h h' e = record {
  calls = h.0 ∙ sym h'.0;
  states = h.1 ∙ sym h'.1;
  results = same_result a value h.2 ∙ sym (same_result a' value h'.2);
}

refuses_decides : {A : Type 0} → Decides {A = A} refuses
refuses_decides x y y' r r' s s' a a' h h' e = absurd_result a (sym h.2)

wants_decides : Decides wants_memory
wants_decides x y y' r r' s s' a a' h h' e = record { calls = h.0 ∙ sym h'.0; states = h.1 ∙ sym h'.1; results = refl }

becomes_decides : (change : State → State) → Decides (becomes change)
becomes_decides change x y y' r r' s s' a a' h h' e = record { calls = h.0 ∙ sym h'.0; states = h.1 ∙ sym h'.1; results = refl }

tries_decides : (change : State → State) → Decides (tries change)
tries_decides change x y y' r r' s s' a a' h h' e =
    elim h.1 [
      | inr not ↦ absurd_result a (sym not.1)
      | inl done ↦ elim h'.1 [
        | inr not ↦ absurd_result a' (sym not.1)
        | inl also ↦ record { calls = h.0 ∙ sym h'.0; states = done.0 ∙ sym also.0; results = refl }
      ]
    ]

makes_decides : (change : Change) → Decides (makes change)
makes_decides change = tries_decides (on_exchange (λ e. left_by (answer change e) change e))

then_at : {A B : Type 0} (first also : Does A) (next more : A → Does B) (x : State) → DecidesAt x first also
    → ((value : A) (z : State) → DecidesAt z (next value) (more value)) → DecidesAt x (first >>= next) (also >>= more)
then_at first also next more x one two y y' r r' s s' a a' (inr t) h' e = absurd_result a (sym t.1)
then_at first also next more x one two y y' r r' s s' a a' (inl t) (inr t') e = absurd_result a' (sym t'.1)
then_at first also next more x one two y y' r r' s s' a a' (inl t) (inl t') e =
    let whole = sym (append_assoc t.front t.back s) ∙ ap (λ c. c ++ s) (sym t.is_joined) ∙ e ∙ ap (λ c. c ++ s') t'.is_joined ∙ append_assoc t'.front t'.back s' in
    let begin = one t.between t'.between t.front t'.front (t.back ++ s) (t'.back ++ s') t.given t'.given t.begins t'.begins whole in
    let rest = append_cancel_left t.front (t.back ++ s) (t'.back ++ s') (whole ∙ ap (λ f. f ++ (t'.back ++ s')) (sym begin.calls)) in
    let there = subst (λ value. more value t.between t'.back y' (Some a')) (sym begin.results)
    (subst (λ z. more t'.given z t'.back y' (Some a')) (sym begin.states) t'.goes_on) in
    let end = two t.given t.between y y' t.back t'.back s s' a a' t.goes_on there rest in
    record {
      calls = t.is_joined ∙ ap (λ f. f ++ t.back) begin.calls ∙ ap (λ b. t'.front ++ b) end.calls ∙ sym t'.is_joined;
      states = end.states;
      results = end.results;
    }

then_decides : {A B : Type 0} (first : Does A) (next : A → Does B) → Decides first → ((value : A) → Decides (next value)) → Decides (first >>= next)
then_decides first next one two x = then_at first first next next x (one x) two

choose_decides : {A : Type 0} (test : Bool) (first other : Does A) → Decides first → Decides other → Decides (choose test first other)
choose_decides true first other one two = one
choose_decides false first other one two = two

asks_decides : {A : Type 0} (listeners : ℕ) (call : Exchange → A → Exchange → Record)
    → ((x e e' : Exchange) (a a' : A) → call x a e ≡ call x a' e' → (a ≡ a') × (e ≡ e')) → Decides (asks listeners call)
asks_decides listeners call tells x y y' r r' s s' a a' h h' e =
    elim h.ends [
      | inr none ↦ absurd_result a (sym none)
      | inl is ↦ elim h'.ends [
        | inr none ↦ absurd_result a' (sym none)
        | inl also ↦
            let made = same_head (call x.exchange h.answer h.exchange) (call x.exchange h'.answer h'.exchange)
            (all_told listeners h.exchange.events ++ s) (all_told listeners h'.exchange.events ++ s')
            (ap (λ q. q ++ s) (sym h.is_made) ∙ e ∙ ap (λ q. q ++ s') h'.is_made) in
            let same = tells x.exchange h.exchange h'.exchange h.answer h'.answer made in
            record {
              calls = h.is_made ∙ ap (λ c. c ∷ all_told listeners h.exchange.events) made
                  ∙ ap (λ e. call x.exchange h'.answer h'.exchange ∷ all_told listeners e.events) same.1 ∙ sym h'.is_made;
              states = h.is ∙ ap (λ e. with_exchange (without_events e) x) same.1 ∙ sym h'.is;
              results = same_result a h.answer is ∙ same.0 ∙ sym (same_result a' h'.answer also);
            }
      ]
    ]

before_tells : (place : ℕ) (x e e' : Exchange) (a a' : Gate) → before_of place x a e ≡ before_of place x a' e' → (a ≡ a') × (e ≡ e')
before_tells place x e e' a a' h = (cc, cc)

after_tells : (place : ℕ) (x e e' : Exchange) (a a' : Bool) → after_of place x a e ≡ after_of place x a' e' → (a ≡ a') × (e ≡ e')
after_tells place x e e' a a' h = (cc, cc)

service_tells : (place turn : ℕ) (x e e' : Exchange) (a a' : Step) → service_of place turn x a e ≡ service_of place turn x a' e' → (a ≡ a') × (e ≡ e')
service_tells place turn x e e' a a' h = (cc, cc)

destroys_decides : (place : ℕ) → Decides (destroys place)
destroys_decides place x y y' r r' s s' a a' h h' e = record { calls = h.0 ∙ sym h'.0; states = h.1 ∙ sym h'.1; results = refl }

-- The exchange after its innermost dispatch has ended.
abbrev shorter : Exchange → Exchange
shorter e = record e { dispatches = without_last e.dispatches }

leaves_decides : Decides leaves
leaves_decides x y y' r r' s s' a a' h h' e =
    record { calls = h.2 ∙ sym h'.2; states = h.3 ∙ ap (λ e. with_exchange e x) (back h.0 h.1 ∙ sym (back h'.0 h'.1)) ∙ sym h'.3; results = refl }
  where
    back : (z : Exchange) (left : Leaves x.exchange z) → z ≡ shorter x.exchange
    back z left = ap (λ dispatches. record z { dispatches = dispatches }) (sym (without_added z.dispatches left.0)) ∙ ap shorter (sym left.1)

last_decides : (ending : Does Finished) → Decides ending → Decides (last ending)
last_decides ending h = then_decides ending (λ result. gives (Some result)) h (λ result. gives_decides (Some result))

goes_on_decides : (result : Finished) → Decides (tree.GoesOn result)
goes_on_decides Done = gives_decides None
goes_on_decides (Error status text) = gives_decides None
goes_on_decides (Failed kind text) = gives_decides (Some (Failed kind text))

behind_decides : (passed : List ℕ) (ending : Does Finished) → Decides ending → Decides (filters.ends_behind passed ending)
behind_decides passed ending h =
    then_decides ending (λ result. gives record { passed = passed; ended = Some result }) h (λ result. gives_decides record { passed = passed; ended = Some result })

afters_decide : (listeners : ℕ) (chain : List ℕ) → Decides (filters.Afters listeners chain)
afters_decide listeners [] = gives_decides tt
afters_decide listeners (filter ∷ chain) =
    then_decides (asks listeners (after_of filter)) (λ done. choose done (filters.Afters listeners chain) refuses)
    (asks_decides listeners (after_of filter) (after_tells filter))
    (λ done. choose_decides done (filters.Afters listeners chain) refuses (afters_decide listeners chain) refuses_decides)

module _ (site : Site) where
  fails_decides : (resource : Resource) (kind text : List ℕ) → Decides (endings.fails site resource kind text)
  fails_decides resource kind text =
      let kept : KeptError = record { status = INTERNAL_SERVER_ERROR; text = text; servlet = Some (name_of site resource); field = None } in
      then_decides (endings.keeps kept) (λ _. gives (Failed kind text)) (tries_decides (with_kept kept)) (λ _. gives_decides (Failed kind text))

  faults_decides : (resource : Resource) (fault : DispatchFault) → Decides (endings.faults site resource fault)
  faults_decides resource fault = fails_decides resource (fault_name fault) (fault_name fault)

  errs_decides : (resource : Resource) (status : ℕ) (text : List ℕ) (field : Option KeptField) → Decides (endings.errs site resource status text field)
  errs_decides resource status text field x =
      let kept : KeptError = record { status = status; text = text; servlet = Some (name_of site resource); field = field } in
      choose_decides (is_within_include x.exchange) (gives Done) (endings.keeps kept >> gives (Error status text)) (gives_decides Done)
      (then_decides (endings.keeps kept) (λ _. gives (Error status text)) (tries_decides (with_kept kept)) (λ _. gives_decides (Error status text))) x

  missing_decides : (resource : Resource) → Decides (endings.is_missing site resource)
  missing_decides resource = errs_decides resource NOT_FOUND (phrase_of NOT_FOUND) None

  away_decides : (resource : Resource) (seconds : ℕ) → Decides (endings.is_away_for site resource seconds)
  away_decides resource seconds = errs_decides resource SERVICE_UNAVAILABLE (phrase_of SERVICE_UNAVAILABLE) (Some record { name = codes "retry-after"; value = decimal seconds })

  sends_decides : (content_type bytes : List ℕ) → Decides (files.Sends site content_type bytes)
  sends_decides content_type bytes =
      let next = (λ (state : State). choose (has_room (length bytes) state.exchange) (makes (Write bytes) >> gives Done) (endings.faults site Files TooLarge) state) in
      then_decides (makes (SetHeader (codes "content-type") content_type)) (λ _. next) (makes_decides (SetHeader (codes "content-type") content_type))
      (λ _ x. choose_decides (has_room (length bytes) x.exchange) (makes (Write bytes) >> gives Done) (endings.faults site Files TooLarge)
      (then_decides (makes (Write bytes)) (λ _. gives Done) (makes_decides (Write bytes)) (λ _. gives_decides Done)) (faults_decides Files TooLarge) x)

  sends_to_decides : (location : List ℕ) → Decides (files.SendsTo site location)
  sends_to_decides location =
      let found = SetStatus FOUND in
      let located = SetHeader (codes "location") location in
      then_decides (becomes (on_exchange files.emptied)) (λ _. makes found >> (makes located >> gives Done)) (becomes_decides (on_exchange files.emptied))
      (λ _. then_decides (makes found) (λ _. makes located >> gives Done) (makes_decides found)
      (λ _. then_decides (makes located) (λ _. gives Done) (makes_decides located) (λ _. gives_decides Done)))

  misses_decides : (kind : Kind) → Decides (files.Misses site kind)
  misses_decides kinds.Include = faults_decides Files MissingInclude
  misses_decides kinds.Request = missing_decides Files
  misses_decides kinds.Forward = missing_decides Files
  misses_decides kinds.Error = missing_decides Files

  filed_decides : (kind : Kind) (answer : FileAnswer) → Decides (files.Filed site kind answer)
  filed_decides kind (File content_type bytes) = sends_decides content_type bytes
  filed_decides kind (Redirect location) = sends_to_decides location
  filed_decides kind Missing = misses_decides kind
  filed_decides kind NotAllowed = errs_decides Files METHOD_NOT_ALLOWED (phrase_of METHOD_NOT_ALLOWED) (Some record { name = codes "allow"; value = codes "GET, HEAD" })

  gated_decides : (resource : Resource) (passed : List ℕ) (gate : Gate) (next : Does Reached) → Decides next → Decides (filters.Gated site resource passed gate next)
  gated_decides resource passed gates.Pass next h = h
  gated_decides resource passed gates.Stop next h = behind_decides passed (gives Done) (gives_decides Done)
  gated_decides resource passed (gates.Failed kind text) next h = behind_decides passed (endings.fails site resource kind text) (fails_decides resource kind text)
  gated_decides resource passed gates.NoMemory next h = refuses_decides

  befores_decide : (resource : Resource) (passed chain : List ℕ) → Decides (filters.Befores site resource passed chain)
  befores_decide resource passed [] = gives_decides record { passed = passed; ended = None }
  befores_decide resource passed (filter ∷ chain) = λ x.
      let next = filters.Befores site resource (filter ∷ passed) chain in
      let ending = endings.faults site resource DispatchLimit in
      let call = (asks site.listeners (before_of filter) >>= λ gate. filters.Gated site resource passed gate next) in
      choose_decides (is_full x) (filters.ends_behind passed ending) (becomes counted >> call) (behind_decides passed ending (faults_decides resource DispatchLimit))
      (then_decides (becomes counted) (λ _. call) (becomes_decides counted)
      (λ _. then_decides (asks site.listeners (before_of filter)) (λ gate. filters.Gated site resource passed gate next) (asks_decides site.listeners (before_of filter) (before_tells filter))
      (λ gate. gated_decides resource passed gate next (befores_decide resource (filter ∷ passed) chain)))) x

  module _ (room : ℕ) (inner : Kind → Canon → Does Finished) (inner_decides : (kind : Kind) (canon : Canon) → Decides (inner kind canon)) where
    admitted_decides : (place : ℕ) (kind : Kind) (given : Result Canon DispatchFault) → Decides (tree.Admitted site room inner place kind given)
    admitted_decides place kind (Ok canon) = inner_decides kind canon
    admitted_decides place kind (Err fault) = faults_decides (Servlet place) fault

    dispatches_decide : (place : ℕ) (kind : Kind) (text : List ℕ) → Decides (tree.Dispatches site room inner place kind text)
    dispatches_decide place kind text =
        then_decides wants_memory (λ _ state. tree.Admitted site room inner place kind (asked_for room kind text state.exchange) state) wants_decides
        (λ _ x. admitted_decides place kind (asked_for room kind text x.exchange) x)

    stepped_decides : (place : ℕ) (step : Step) → Decides (tree.Stepped site room inner place step)
    stepped_decides place steps.Done = last_decides (gives Done) (gives_decides Done)
    stepped_decides place (steps.Forward text) = last_decides (tree.Dispatches site room inner place kinds.Forward text) (dispatches_decide place kinds.Forward text)
    stepped_decides place (steps.Include text) =
        then_decides (tree.Dispatches site room inner place kinds.Include text) tree.GoesOn (dispatches_decide place kinds.Include text) goes_on_decides
    stepped_decides place (steps.Error code text) =
        last_decides (endings.errs site (Servlet place) (error_status code) text None) (errs_decides (Servlet place) (error_status code) text None)
    stepped_decides place (steps.Failed kind text) = last_decides (endings.fails site (Servlet place) kind text) (fails_decides (Servlet place) kind text)
    stepped_decides place (steps.Unavailable None) =
        then_decides (destroys place) (λ _. last (endings.is_missing site (Servlet place))) (destroys_decides place)
        (λ _. last_decides (endings.is_missing site (Servlet place)) (missing_decides (Servlet place)))
    stepped_decides place (steps.Unavailable (Some seconds)) =
        then_decides (becomes (away_for place seconds)) (λ _. last (endings.is_away_for site (Servlet place) seconds)) (becomes_decides (away_for place seconds))
        (λ _. last_decides (endings.is_away_for site (Servlet place) seconds) (away_decides (Servlet place) seconds))
    stepped_decides place steps.NoMemory = refuses_decides

    stands_decides : (place moment : ℕ) (standing : Standing) (next : Does (Option Finished)) → Decides next → Decides (tree.Stands site room inner place moment standing next)
    stands_decides place moment Serving next h = h
    stands_decides place moment Gone next h = last_decides (endings.is_missing site (Servlet place)) (missing_decides (Servlet place))
    stands_decides place moment (Away until) next h = last_decides (endings.is_away_for site (Servlet place) (until - moment)) (away_decides (Servlet place) (until - moment))

    turn_decides : (place turn : ℕ) → Decides (tree.Turn site room inner place turn)
    turn_decides place turn x =
        let serve = (asks site.listeners (service_of place turn) >>= tree.Stepped site room inner place) in
        let limit = last (endings.faults site (Servlet place) DispatchLimit) in
        stands_decides place x.exchange.moment (standing_at x.exchange.moment place x.standings) (filters.within_limit limit serve)
        (λ x. choose_decides (is_full x) limit (becomes counted >> serve) (last_decides (endings.faults site (Servlet place) DispatchLimit) (faults_decides (Servlet place) DispatchLimit))
        (then_decides (becomes counted) (λ _. serve) (becomes_decides counted)
        (λ _. then_decides (asks site.listeners (service_of place turn)) (tree.Stepped site room inner place) (asks_decides site.listeners (service_of place turn) (service_tells place turn))
        (λ step. stepped_decides place step))) x) x

    continues_decide : (ended : Option Finished) (next more : Does Finished) → ((x : State) → DecidesAt x next more)
        → (x : State) → DecidesAt x (tree.Continues site room inner ended next) (tree.Continues site room inner ended more)
    continues_decide (Some result) next more h = gives_decides result
    continues_decide None next more h = h

    -- The limits on the number of turns may differ.
    turns_decide : (place left also turn : ℕ) (x : State) → DecidesAt x (tree.Turns site room inner place left turn) (tree.Turns site room inner place also turn)
    turns_decide place zero also turn x = λ y y' r r' s s' a a' h h' e. absurd h
    turns_decide place (suc left) zero turn x = λ y y' r r' s s' a a' h h' e. absurd h'
    turns_decide place (suc left) (suc also) turn x =
        let rest = tree.Turns site room inner place left (suc turn) in
        let more = tree.Turns site room inner place also (suc turn) in
        then_at (tree.Turn site room inner place turn) (tree.Turn site room inner place turn)
        (λ ended. tree.Continues site room inner ended rest) (λ ended. tree.Continues site room inner ended more) x (turn_decides place turn x)
        (λ ended. continues_decide ended rest more (turns_decide place left also (suc turn)))

    responds_decides : (resource : Resource) (kind : Kind) (canon : Canon) (ended : Option Finished) → Decides (tree.Responds site room inner resource kind canon ended)
    responds_decides resource kind canon (Some result) = gives_decides result
    responds_decides (Servlet place) kind canon None = λ x y y' r r' s s' a a' h h' e. turns_decide place h.0 h'.0 0 x y y' r r' s s' a a' h.1 h'.1 e
    responds_decides Files kind canon None =
        then_decides wants_memory (λ _ state. files.Filed site kind (site.file canon state.exchange.method kind) state) wants_decides
        (λ _ x. filed_decides kind (site.file canon x.exchange.method kind) x)

    within_decides : (resource : Resource) (kind : Kind) (canon : Canon) → Decides (tree.Within site room inner resource kind canon)
    within_decides resource kind canon =
        let chain = site.chain canon.path (name_of site resource) kind in
        let behind = (λ (reached : Reached). tree.Responds site room inner resource kind canon reached.ended >>= λ result. filters.Afters site.listeners reached.passed >> gives result) in
        then_decides wants_memory (λ _. filters.Befores site resource [] chain >>= behind) wants_decides
        (λ _. then_decides (filters.Befores site resource [] chain) behind (befores_decide resource [] chain)
        (λ reached. then_decides (tree.Responds site room inner resource kind canon reached.ended) (λ result. filters.Afters site.listeners reached.passed >> gives result)
        (responds_decides resource kind canon reached.ended)
        (λ result. then_decides (filters.Afters site.listeners reached.passed) (λ _. gives result) (afters_decide site.listeners reached.passed) (λ _. gives_decides result))))

    dispatch_decides : (kind : Kind) (canon : Canon) → Decides (tree.Dispatch site room inner kind canon)
    dispatch_decides kind canon =
        let within = tree.Within site room inner (chosen site canon.path).resource kind canon in
        then_decides (tries (on_exchange (begun site kind canon))) (λ _. within >>= λ finished. leaves >> gives finished) (tries_decides (on_exchange (begun site kind canon)))
        (λ _. then_decides within (λ finished. leaves >> gives finished) (within_decides (chosen site canon.path).resource kind canon)
        (λ finished. then_decides leaves (λ _. gives finished) leaves_decides (λ _. gives_decides finished)))

  tree_decides : (room : ℕ) (kind : Kind) (canon : Canon) → Decides (Tree site room kind canon)
  unfolding Tree
  tree_decides zero kind canon = λ x y y' r r' s s' a a' h h' e. absurd h
  tree_decides (suc room) kind canon = dispatch_decides room (Tree site room) (tree_decides room) kind canon

  pub calls_decide : CallsDecide site
  calls_decide room kind canon x y y' r finished also h h' =
      let same = tree_decides room kind canon x y y' r r [] [] finished also h h' refl in (same.states, same.results)
