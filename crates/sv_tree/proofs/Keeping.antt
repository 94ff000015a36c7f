-- A property that each step keeps holds for every dispatch.
use Rattle.std.specs.Prelude.{codes, decimal, length}
use Rattle.std.proofs.lemmas.List.{append-nil}
use Rattle.std.proofs.Common.{◌≡◌, ◌⊎◌, inl, inr, ℕ, zero, suc, ◌-◌, Bool, true, false, List, [], ◌∷◌, ◌++◌, Option, None, Some, Result, Ok, Err, refl, sym, ap, ◌∙◌, subst}
use Rattle.sv_component.specs.Call.{Destroyed}
use Rattle.sv_component.specs.Runs.{OfServlet, Record}
use Rattle.sv_component.specs.declared.answers.Gate.{Gate}
use Rattle.sv_component.specs.declared.answers.Gate.TheVariants as gates
use Rattle.sv_component.specs.declared.answers.Step.{Step}
use Rattle.sv_component.specs.declared.answers.Step.TheVariants as steps
use Rattle.sv_exchange.specs.Changing.{Change, SetHeader, SetStatus, AddHeader, Write, SetAttribute, Flush, SessionOpen, SessionSet, SessionRemove, SessionEnd, Logout, Reaches, answer, has_room, left_by}
use Rattle.sv_exchange.specs.Dispatches.{Leaves, is_within_include}
use Rattle.sv_mapping.specs.declared.kind.Kind.{Kind}
use Rattle.sv_mapping.specs.declared.kind.Kind.TheVariants as kinds
use Rattle.sv_tree.specs.Asking.{Asks, asks, without_events}
use Rattle.sv_tree.specs.Does.{Does, ◌>>=◌, ◌>>◌, becomes, choose, gives, leaves, makes, refuses, tries, wants_memory}
use Rattle.sv_tree.specs.Endings as endings
use Rattle.sv_tree.specs.Endings.{error_status}
use Rattle.sv_tree.specs.Faults.{fault_name}
use Rattle.sv_tree.specs.Files as files
use Rattle.sv_tree.specs.Filters as filters
use Rattle.sv_tree.specs.Filters.{Reached, after_of, before_of}
use Rattle.sv_tree.specs.Site.{Resource, Servlet, Files, FileAnswer, File, Redirect, Missing, NotAllowed, Site, begun, chosen, name_of}
use Rattle.sv_tree.specs.State.{Exchange, KeptError, KeptField, State, Standing, Serving, Gone, Away, away_for, counted, is_full, on_exchange, standing_at, with_exchange, with_kept, with_standing}
use Rattle.sv_tree.specs.Telling.{all_told}
use Rattle.sv_tree.specs.Tree as tree
use Rattle.sv_tree.specs.Tree.{Tree, asked_for, destroys, last, service_of}
use Rattle.sv_tree.specs.declared.finished.DispatchFault.{DispatchFault}
use Rattle.sv_tree.specs.declared.finished.DispatchFault.TheVariants.{DispatchLimit, MissingInclude, TooLarge}
use Rattle.sv_tree.specs.declared.finished.Finished.{Finished}
use Rattle.sv_tree.specs.declared.finished.Finished.TheVariants.{Done, Error, Failed}
use Rattle.sv_tree.specs.declared.limits.TheConstants.{FOUND, METHOD_NOT_ALLOWED, NOT_FOUND, SERVICE_UNAVAILABLE, INTERNAL_SERVER_ERROR}
use Rattle.sv_tree.proofs.Changing.{Unchanged, called_unchanged, changes_account}
use Rattle.sv_tree.proofs.Doing.{absurd_result, becomes_then, chosen_then, tries_then}
use Rattle.sv_uri.specs.declared.path.Canon.{Canon}
use Rattle.sv_message.specs.Phrases.{phrase_of}

-- Whether there is a result, so that memory did not run out.
abbrev pub came : {A : Type 0} → Option A → Bool
came (Some value) = true
came None = false

-- The direct effect of a servlet's result on its availability.
abbrev pub away_by : ℕ → Step → State → State
away_by place (steps.Unavailable (Some seconds)) state = away_for place seconds state
away_by place step state = state

pub away_same : (place : ℕ) (step : Step) (state : State)
    → (away_by place step state).exchange ≡ state.exchange
away_same place (steps.Unavailable (Some seconds)) state = refl
away_same place (steps.Unavailable None) state = refl
away_same place steps.Done state = refl
away_same place (steps.Forward text) state = refl
away_same place (steps.Include text) state = refl
away_same place (steps.Error code text) state = refl
away_same place (steps.Failed kind text) state = refl
away_same place steps.NoMemory state = refl

-- The state after a call, once the listeners are notified.
abbrev pub called : Exchange → State → State
called exchange state = with_exchange (without_events exchange) state

-- The notifications that follow a call.
abbrev pub told_by : Site → Exchange → List Record
told_by site exchange = all_told site.listeners exchange.events

-- The names of the fields that the container sets within a dispatch, and of those for the errors that it raises.
abbrev pub IsOwnName : List ℕ → Type 0
IsOwnName name =
    (name ≡ codes "content-type") ⊎ ((name ≡ codes "location") ⊎ ((name ≡ codes "allow") ⊎ (name ≡ codes "retry-after")))

abbrev pub IsOwnField : Option KeptField → Type 0
IsOwnField None = Unit {0}
IsOwnField (Some field) = IsOwnName field.name

-- The changing calls that the container makes within a dispatch.
abbrev pub IsOwn : Change → Type 0
IsOwn (SetStatus status) = Unit {0}
IsOwn (SetHeader name value) = IsOwnName name
IsOwn (AddHeader name value) = ⊥
IsOwn (Write bytes) = Unit {0}
IsOwn (SetAttribute name value) = ⊥
IsOwn Flush = ⊥
IsOwn SessionOpen = ⊥
IsOwn (SessionSet name value) = ⊥
IsOwn (SessionRemove name) = ⊥
IsOwn SessionEnd = ⊥
IsOwn Logout = ⊥

pub away_unchanged : (x : State) (place : ℕ) (step : Step) (e : Exchange) → Reaches (counted x).exchange e
    → Unchanged x.exchange (away_by place step (called e x)).exchange
away_unchanged x place step e changes = subst (Unchanged x.exchange) (sym (away_same place step (called e x))) (called_unchanged x.exchange e changes)

pub away_calls : (x : State) (place : ℕ) (step : Step) (e : Exchange) → Reaches (counted x).exchange e
    → (away_by place step (called e x)).exchange.calls ≡ suc x.exchange.calls
away_calls x place step e changes = ap (λ e. e.calls) (away_same place step (called e x)) ∙ (changes_account (counted x).exchange e changes).0

abbrev pub stands : ℕ → State → Standing
stands place state = standing_at state.exchange.moment place state.standings

-- The last argument of the property says whether there was a result.
module _ (site : Site) (Q : ℕ → State → List Record → State → Bool → Type 0) where
  -- The property of a dispatch of this kind, given the property of its parts.
  pub record OpensTo (given : State → List Record → State → Bool → Type 0) (room : ℕ) (kind : Kind) (canon : Canon) : Type 0 where
    pub stays : (x : State) → given x [] x false
    pub ends : (x y : State) (z : Exchange) (r : List Record)
        → Q room (on_exchange (begun site kind canon) x) r y true → Leaves y.exchange z → given x r (with_exchange z y) true
    pub breaks : (x y : State) (r : List Record) → Q room (on_exchange (begun site kind canon) x) r y false → given x r y false

  -- A dispatch of this kind keeps the property of its parts.
  abbrev pub Opens : Kind → Type 0
  Opens kind = (room : ℕ) (canon : Canon) → OpensTo (Q (suc room)) room kind canon

  pub record Steps : Type 0 where
    pub stays : (room : ℕ) (x : State) (b : Bool) → Q room x [] x b
    pub joins : (room : ℕ) (x y z : State) (r s : List Record) (b : Bool) → Q room x r y true → Q room y s z b → Q room x (r ++ s) z b
    pub keeps : (room : ℕ) (x : State) (kept : KeptError) → IsOwnField kept.field → Q room x [] (with_kept kept x) true
    pub makes : (room : ℕ) (x : State) (change : Change) → IsOwn change → Q room x [] (on_exchange (λ e. left_by (answer change e) change e) x) true
    pub empties : (room : ℕ) (x : State) → Q room x [] (on_exchange files.emptied x) true
    pub breaks : (room : ℕ) (x : State) (place turn : ℕ) (step : Step) (e : Exchange) → is_full x ≡ false → stands place x ≡ Serving → Reaches (counted x).exchange e
        → Q room x (service_of place turn (counted x).exchange step e ∷ told_by site e) (called e x) false
    pub serves : (room : ℕ) (x : State) (place turn : ℕ) (step : Step) (e : Exchange) → is_full x ≡ false → stands place x ≡ Serving → Reaches (counted x).exchange e
        → Q room x (service_of place turn (counted x).exchange step e ∷ told_by site e) (away_by place step (called e x)) true
    pub destroys : (room : ℕ) (x : State) (place : ℕ) (b : Bool) → stands place x ≡ Serving
        → Q room x (OfServlet place Destroyed ∷ []) (with_standing place Gone x) b
    pub forwards : Opens kinds.Forward
    pub includes : Opens kinds.Include

  abbrev pub Keeps : {A : Type 0} → ℕ → Does A → Type 0
  Keeps {A} room does = (x y : State) (r : List Record) (result : Option A) → does x r y result → Q room x r y (came result)

  module _ (law : Steps) (room : ℕ) where
    pub same_keeps : {A : Type 0} (x y : State) (r : List Record) (result : Option A) → r ≡ [] → y ≡ x → Q room x r y (came result)
    same_keeps x y r result none same =
        subst (λ s. Q room x r s (came result)) (sym same) (subst (λ s. Q room x s x (came result)) (sym none) (law.stays room x (came result)))

    pub gives_keeps : {A : Type 0} (value : A) → Keeps room (gives value)
    gives_keeps value x y r result h = same_keeps x y r result h.0 h.1

    pub refuses_keeps : {A : Type 0} → Keeps {A = A} room refuses
    refuses_keeps x y r result h = same_keeps x y r result h.0 h.1

    pub wants_keeps : Keeps room wants_memory
    wants_keeps x y r result h = same_keeps x y r result h.0 h.1

    pub then_keeps : {A B : Type 0} (first : Does A) (next : A → Does B) → Keeps room first → ((value : A) → Keeps room (next value))
        → Keeps room (first >>= next)
    then_keeps first next one two x y r result (inl t) =
        subst (λ s. Q room x s y (came result)) (sym t.is_joined)
        (law.joins room x t.between y t.front t.back (came result) (one x t.between t.front (Some t.given) t.begins)
        (two t.given t.between y t.back result t.goes_on))
    then_keeps first next one two x y r result (inr t) =
        subst (λ b. Q room x r y (came b)) (sym t.1) (one x y r None t.0)

    changed_keeps : {A : Type 0} (change : State → State) (x y : State) (r : List Record) (value : A) (result : Option A) → Q room x [] (change x) true
        → r ≡ [] → y ≡ change x → result ≡ Some value → Q room x r y (came result)
    changed_keeps change x y r value result kept none same done =
        subst (λ o. Q room x r y (came o)) (sym done) (subst (λ s. Q room x r s true) (sym same)
        (subst (λ s. Q room x s (change x) true) (sym none) kept))

    pub tries_keeps : (change : State → State) → ((x : State) → Q room x [] (change x) true) → Keeps room (tries change)
    tries_keeps change kept x y r result h =
        elim h.1 [
          | inl done ↦ changed_keeps change x y r tt result (kept x) h.0 done.0 done.1
          | inr not ↦ same_keeps x y r result h.0 not.0
        ]

    pub becomes_keeps : (change : State → State) → ((x : State) → Q room x [] (change x) true) → Keeps room (becomes change)
    becomes_keeps change kept x y r result h = changed_keeps change x y r tt result (kept x) h.0 h.1 h.2

    pub makes_keeps : (change : Change) → IsOwn change → Keeps room (makes change)
    makes_keeps change own = tries_keeps (on_exchange (λ e. left_by (answer change e) change e)) (λ x. law.makes room x change own)

    pub keeps_keeps : (kept : KeptError) → IsOwnField kept.field → Keeps room (endings.keeps kept)
    keeps_keeps kept own = tries_keeps (with_kept kept) (λ x. law.keeps room x kept own)

    pub fails_keeps : (resource : Resource) (kind text : List ℕ) → Keeps room (endings.fails site resource kind text)
    fails_keeps resource kind text =
        let kept : KeptError = record { status = INTERNAL_SERVER_ERROR; text = text; servlet = Some (name_of site resource); field = None } in
        then_keeps (endings.keeps kept) (λ _. gives (Failed kind text)) (keeps_keeps kept tt) (λ _. gives_keeps (Failed kind text))

    pub faults_keeps : (resource : Resource) (fault : DispatchFault) → Keeps room (endings.faults site resource fault)
    faults_keeps resource fault = fails_keeps resource (fault_name fault) (fault_name fault)

    pub errs_keeps : (resource : Resource) (status : ℕ) (text : List ℕ) (field : Option KeptField) → IsOwnField field
        → Keeps room (endings.errs site resource status text field)
    errs_keeps resource status text field own x y r result h =
        let kept : KeptError = record { status = status; text = text; servlet = Some (name_of site resource); field = field } in
        let shown = (endings.keeps kept >> gives (Error status text)) in
        chosen_then (is_within_include x.exchange) (gives Done) shown x y r result
        (λ _ done. gives_keeps Done x y r result done)
        (λ _ done. then_keeps (endings.keeps kept) (λ _. gives (Error status text)) (keeps_keeps kept own) (λ _. gives_keeps (Error status text)) x y r result done)
        h

    pub missing_keeps : (resource : Resource) → Keeps room (endings.is_missing site resource)
    missing_keeps resource = errs_keeps resource NOT_FOUND (phrase_of NOT_FOUND) None tt

    pub away_keeps : (resource : Resource) (seconds : ℕ) → Keeps room (endings.is_away_for site resource seconds)
    away_keeps resource seconds = errs_keeps resource SERVICE_UNAVAILABLE (phrase_of SERVICE_UNAVAILABLE) (Some record { name = codes "retry-after"; value = decimal seconds }) (inr (inr (inr refl)))

    pub behind_keeps : (passed : List ℕ) (ending : Does Finished) → Keeps room ending → Keeps room (filters.ends_behind passed ending)
    behind_keeps passed ending h =
        then_keeps ending (λ result. gives record { passed = passed; ended = Some result }) h (λ result. gives_keeps record { passed = passed; ended = Some result })

    pub gated_keeps : (resource : Resource) (passed : List ℕ) (gate : Gate) (next : Does Reached) → Keeps room next → Keeps room (filters.Gated site resource passed gate next)
    gated_keeps resource passed gates.Pass next h = h
    gated_keeps resource passed gates.Stop next h = behind_keeps passed (gives Done) (gives_keeps Done)
    gated_keeps resource passed (gates.Failed kind text) next h = behind_keeps passed (endings.fails site resource kind text) (fails_keeps resource kind text)
    gated_keeps resource passed gates.NoMemory next h = refuses_keeps

    sends_keeps : (content_type bytes : List ℕ) → Keeps room (files.Sends site content_type bytes)
    sends_keeps content_type bytes =
        let typed = SetHeader (codes "content-type") content_type in
        then_keeps (makes typed) (λ _ state. choose (has_room (length bytes) state.exchange) (makes (Write bytes) >> gives Done) (endings.faults site Files TooLarge) state)
        (makes_keeps typed (inl refl))
        (λ _ x y r result h. chosen_then (has_room (length bytes) x.exchange) (makes (Write bytes) >> gives Done) (endings.faults site Files TooLarge) x y r result
        (λ _ done. then_keeps (makes (Write bytes)) (λ _. gives Done) (makes_keeps (Write bytes) tt) (λ _. gives_keeps Done) x y r result done)
        (λ _ done. faults_keeps Files TooLarge x y r result done) h)

    sends_to_keeps : (location : List ℕ) → Keeps room (files.SendsTo site location)
    sends_to_keeps location =
        let found = SetStatus FOUND in
        let located = SetHeader (codes "location") location in
        then_keeps (becomes (on_exchange files.emptied)) (λ _. makes found >> (makes located >> gives Done))
        (becomes_keeps (on_exchange files.emptied) (λ x. law.empties room x))
        (λ _. then_keeps (makes found) (λ _. makes located >> gives Done) (makes_keeps found tt)
        (λ _. then_keeps (makes located) (λ _. gives Done) (makes_keeps located (inr (inl refl))) (λ _. gives_keeps Done)))

    misses_keeps : (kind : Kind) → Keeps room (files.Misses site kind)
    misses_keeps kinds.Include = faults_keeps Files MissingInclude
    misses_keeps kinds.Request = missing_keeps Files
    misses_keeps kinds.Forward = missing_keeps Files
    misses_keeps kinds.Error = missing_keeps Files

    filed_keeps : (kind : Kind) (answer : FileAnswer) → Keeps room (files.Filed site kind answer)
    filed_keeps kind (File content_type bytes) = sends_keeps content_type bytes
    filed_keeps kind (Redirect location) = sends_to_keeps location
    filed_keeps kind Missing = misses_keeps kind
    filed_keeps kind NotAllowed = errs_keeps Files METHOD_NOT_ALLOWED (phrase_of METHOD_NOT_ALLOWED) (Some record { name = codes "allow"; value = codes "GET, HEAD" }) (inr (inr (inl refl)))

    module _ (inner : Kind → Canon → Does Finished)
        (forwards : (canon : Canon) → Keeps room (inner kinds.Forward canon)) (includes : (canon : Canon) → Keeps room (inner kinds.Include canon)) where
      admitted_keeps : (place : ℕ) (kind : Kind) (given : Result Canon DispatchFault) → ((canon : Canon) → Keeps room (inner kind canon))
          → Keeps room (tree.Admitted site room inner place kind given)
      admitted_keeps place kind (Ok canon) h = h canon
      admitted_keeps place kind (Err fault) h = faults_keeps (Servlet place) fault

      dispatches_keeps : (place : ℕ) (kind : Kind) (text : List ℕ) → ((canon : Canon) → Keeps room (inner kind canon))
          → Keeps room (tree.Dispatches site room inner place kind text)
      dispatches_keeps place kind text h =
          then_keeps wants_memory (λ _ state. tree.Admitted site room inner place kind (asked_for room kind text state.exchange) state) wants_keeps
          (λ _ x y r result done. admitted_keeps place kind (asked_for room kind text x.exchange) h x y r result done)

      goes_on_keeps : (result : Finished) → Keeps room (tree.GoesOn result)
      goes_on_keeps Done = gives_keeps None
      goes_on_keeps (Error status text) = gives_keeps None
      goes_on_keeps (Failed kind text) = gives_keeps (Some (Failed kind text))

      last_keeps : (ending : Does Finished) → Keeps room ending → Keeps room (last ending)
      last_keeps ending h = then_keeps ending (λ result. gives (Some result)) h (λ result. gives_keeps (Some result))

      -- The call of a servlet and the steps after it keep the property.
      behind_call : (place turn : ℕ) (x : State) (e : Exchange) (step : Step) (does : Does (Option Finished)) → Keeps room does
          → is_full x ≡ false → stands place x ≡ Serving → Reaches (counted x).exchange e
          → (y : State) (r : List Record) (result : Option (Option Finished)) → does (away_by place step (called e x)) r y result
          → Q room x (service_of place turn (counted x).exchange step e ∷ (told_by site e ++ r)) y (came result)
      behind_call place turn x e step does h left serving changes y r result done =
          law.joins room x (away_by place step (called e x)) y (service_of place turn (counted x).exchange step e ∷ told_by site e) r (came result)
          (law.serves room x place turn step e left serving changes) (h (away_by place step (called e x)) y r result done)

      -- The changing calls of a component keep each servlet's availability.
      still_serving : (place : ℕ) (x : State) (e : Exchange) → stands place x ≡ Serving → Reaches (counted x).exchange e → stands place (called e x) ≡ Serving
      still_serving place x e serving changes =
          ap (λ moment. standing_at moment place x.standings) (called_unchanged x.exchange e changes).0.moment ∙ serving

      -- The same for a servlet that is destroyed after its call.
      destroyed : (place turn : ℕ) (x : State) (e : Exchange)
          → is_full x ≡ false → stands place x ≡ Serving → Reaches (counted x).exchange e
          → (y : State) (r : List Record) (result : Option (Option Finished))
          → (destroys place >> last (endings.is_missing site (Servlet place))) (called e x) r y result
          → Q room x (service_of place turn (counted x).exchange (steps.Unavailable None) e ∷ (told_by site e ++ r)) y (came result)
      destroyed place turn x e left serving changes y r result (inr t) =
          law.joins room x (called e x) y (service_of place turn (counted x).exchange (steps.Unavailable None) e ∷ told_by site e) r (came result)
          (law.serves room x place turn (steps.Unavailable None) e left serving changes)
          (subst (λ o. Q room (called e x) r y (came o)) (sym t.1) (subst (λ s. Q room (called e x) r s false) (sym t.0.1)
          (subst (λ s. Q room (called e x) s (with_standing place Gone (called e x)) false) (sym t.0.0)
          (law.destroys room (called e x) place false (still_serving place x e serving changes)))))
      destroyed place turn x e left serving changes y r result (inl t) =
          let gone = with_standing place Gone (called e x) in
          let end = last_keeps (endings.is_missing site (Servlet place)) (missing_keeps (Servlet place)) t.between y t.back result t.goes_on in
          subst (λ s. Q room x (service_of place turn (counted x).exchange (steps.Unavailable None) e ∷ (told_by site e ++ s)) y (came result)) (sym (t.is_joined ∙ ap (λ front. front ++ t.back) t.begins.0))
          (law.joins room x (called e x) y (service_of place turn (counted x).exchange (steps.Unavailable None) e ∷ told_by site e) (OfServlet place Destroyed ∷ t.back) (came result)
          (law.serves room x place turn (steps.Unavailable None) e left serving changes)
          (law.joins room (called e x) gone y (OfServlet place Destroyed ∷ []) t.back (came result)
          (law.destroys room (called e x) place true (still_serving place x e serving changes))
          (subst (λ s. Q room s t.back y (came result)) t.begins.1 end)))

      stepped_keeps : (place turn : ℕ) (x : State) (e : Exchange)
          → is_full x ≡ false → stands place x ≡ Serving → Reaches (counted x).exchange e
          → (step : Step) (y : State) (r : List Record) (result : Option (Option Finished))
          → tree.Stepped site room inner place step (called e x) r y result
          → Q room x (service_of place turn (counted x).exchange step e ∷ (told_by site e ++ r)) y (came result)
      stepped_keeps place turn x e left serving changes steps.Done y r result done =
          behind_call place turn x e steps.Done (last (gives Done)) (last_keeps (gives Done) (gives_keeps Done)) left serving changes y r result done
      stepped_keeps place turn x e left serving changes (steps.Forward text) y r result done =
          let forward = tree.Dispatches site room inner place kinds.Forward text in
          behind_call place turn x e (steps.Forward text) (last forward) (last_keeps forward (dispatches_keeps place kinds.Forward text forwards)) left serving changes y r result done
      stepped_keeps place turn x e left serving changes (steps.Include text) y r result done =
          let include = tree.Dispatches site room inner place kinds.Include text in
          behind_call place turn x e (steps.Include text) (include >>= tree.GoesOn)
          (then_keeps include tree.GoesOn (dispatches_keeps place kinds.Include text includes) goes_on_keeps) left serving changes y r result done
      stepped_keeps place turn x e left serving changes (steps.Error code text) y r result done =
          let ending = endings.errs site (Servlet place) (error_status code) text None in
          behind_call place turn x e (steps.Error code text) (last ending) (last_keeps ending (errs_keeps (Servlet place) (error_status code) text None tt)) left serving changes y r result done
      stepped_keeps place turn x e left serving changes (steps.Failed kind text) y r result done =
          let ending = endings.fails site (Servlet place) kind text in
          behind_call place turn x e (steps.Failed kind text) (last ending) (last_keeps ending (fails_keeps (Servlet place) kind text)) left serving changes y r result done
      stepped_keeps place turn x e left serving changes (steps.Unavailable (Some seconds)) y r result done =
          let ending = endings.is_away_for site (Servlet place) seconds in
          behind_call place turn x e (steps.Unavailable (Some seconds)) (last ending) (last_keeps ending (away_keeps (Servlet place) seconds)) left serving changes y r result
          (becomes_then (away_for place seconds) (λ _. last ending) (called e x) y r result done)
      stepped_keeps place turn x e left serving changes (steps.Unavailable None) y r result done =
          destroyed place turn x e left serving changes y r result done
      stepped_keeps place turn x e left serving changes steps.NoMemory y r result done =
          behind_call place turn x e steps.NoMemory refuses refuses_keeps left serving changes y r result done

      stood : (place moment : ℕ) (standing : Standing) (next : Does (Option Finished)) (x y : State) (r : List Record) (result : Option (Option Finished))
          → (standing ≡ Serving → next x r y result → Q room x r y (came result))
          → tree.Stands site room inner place moment standing next x r y result → Q room x r y (came result)
      stood place moment Serving next x y r result h done = h refl done
      stood place moment Gone next x y r result h done =
          last_keeps (endings.is_missing site (Servlet place)) (missing_keeps (Servlet place)) x y r result done
      stood place moment (Away until) next x y r result h done =
          last_keeps (endings.is_away_for site (Servlet place) (until - moment)) (away_keeps (Servlet place) (until - moment)) x y r result done

      -- A turn that calls the servlet keeps the property.
      made : (place turn : ℕ) (x y : State) (r : List Record) (result : Option (Option Finished))
          → is_full x ≡ false → stands place x ≡ Serving
          → (asks site.listeners (service_of place turn) >>= tree.Stepped site room inner place) (counted x) r y result
          → Q room x r y (came result)
      made place turn x y r result left serving (inl t) =
          let call = t.begins in
          elim call.ends [
            | inl same ↦ subst (λ s. Q room x s y (came result)) (sym (t.is_joined ∙ ap (λ front. front ++ t.back) call.is_made))
                (stepped_keeps place turn x call.exchange left serving call.changes call.answer y t.back result
                (subst (λ s. tree.Stepped site room inner place call.answer s t.back y result) call.is
                (subst (λ step. tree.Stepped site room inner place step t.between t.back y result) (given same) t.goes_on)))
            | inr none ↦ absurd_result t.given (sym none)
          ]
        where
          given : {a b : Step} → Some a ≡ Some b → a ≡ b
          given e = cc
      made place turn x y r result left serving (inr t) =
          let call = t.0 in
          subst (λ b. Q room x r y (came b)) (sym t.1) (subst (λ s. Q room x r s false) (sym call.is)
          (subst (λ s. Q room x s (called call.exchange x) false) (sym call.is_made) (law.breaks room x place turn call.answer call.exchange left serving call.changes)))

      pub turn_keeps : (place turn : ℕ) → Keeps room (tree.Turn site room inner place turn)
      turn_keeps place turn x y r result h =
          let serve = (asks site.listeners (service_of place turn) >>= tree.Stepped site room inner place) in
          let limit = last (endings.faults site (Servlet place) DispatchLimit) in
          stood place x.exchange.moment (stands place x) (filters.within_limit limit serve) x y r result
          (λ serving done. chosen_then (is_full x) limit (becomes counted >> serve) x y r result
          (λ _ full. last_keeps (endings.faults site (Servlet place) DispatchLimit) (faults_keeps (Servlet place) DispatchLimit) x y r result full)
          (λ left turned. made place turn x y r result left serving (becomes_then counted (λ _. serve) x y r result turned)) done) h

      continues_keeps : (ended : Option Finished) (next : Does Finished) → Keeps room next → Keeps room (tree.Continues site room inner ended next)
      continues_keeps (Some result) next h = gives_keeps result
      continues_keeps None next h = h

      turns_keep : (place left turn : ℕ) → Keeps room (tree.Turns site room inner place left turn)
      turns_keep place zero turn = λ x y r result h. absurd h
      turns_keep place (suc left) turn =
          let rest = tree.Turns site room inner place left (suc turn) in
          then_keeps (tree.Turn site room inner place turn) (λ ended. tree.Continues site room inner ended rest)
          (turn_keeps place turn) (λ ended. continues_keeps ended rest (turns_keep place left (suc turn)))

      pub responds_keeps : (resource : Resource) (kind : Kind) (canon : Canon) (ended : Option Finished)
          → Keeps room (tree.Responds site room inner resource kind canon ended)
      responds_keeps resource kind canon (Some result) = gives_keeps result
      responds_keeps (Servlet place) kind canon None = λ x y r result h. turns_keep place h.0 0 x y r result h.1
      responds_keeps Files kind canon None =
          then_keeps wants_memory (λ _ state. files.Filed site kind (site.file canon state.exchange.method kind) state) wants_keeps
          (λ _ x y r result h. filed_keeps kind (site.file canon x.exchange.method kind) x y r result h)

  -- If the resource after the filters keeps the property, so do the filters with it.
  abbrev pub WithinKeeps : Type 1
  WithinKeeps =
      (room : ℕ) (inner : Kind → Canon → Does Finished) (resource : Resource) (kind : Kind) (canon : Canon)
      → ((ended : Option Finished) → Keeps room (tree.Responds site room inner resource kind canon ended))
      → Keeps room (tree.Within site room inner resource kind canon)

  -- The calls of filters keep the property.
  pub record FilterSteps : Type 0 where
    pub before : (room place : ℕ) (x : State) (gate : Gate) (e : Exchange) (b : Bool) → is_full x ≡ false → Reaches (counted x).exchange e
        → Q room x (before_of place (counted x).exchange gate e ∷ told_by site e) (called e x) b
    pub after : (room place : ℕ) (x : State) (done : Bool) (e : Exchange) (b : Bool) → Reaches x.exchange e
        → Q room x (after_of place x.exchange done e ∷ told_by site e) (called e x) b

  module _ (law : Steps) (calls : FilterSteps) where
    -- The call of a component keeps the property if it does so for every result.
    asked_keeps : {A : Type 0} (room : ℕ) (call : Exchange → A → Exchange → Record) (change : State → State) (x : State)
        → ((answer : A) (e : Exchange) (b : Bool) → Reaches (change x).exchange e → Q room x (call (change x).exchange answer e ∷ told_by site e) (called e (change x)) b)
        → (x' y : State) (r : List Record) (result : Option A) → x' ≡ change x → x'.exchange ≡ (change x).exchange → Asks site.listeners call x' r y result → Q room x r y (came result)
    asked_keeps room call change x kept x' y r result same exchange asked =
        subst (λ s. Q room x r s (came result)) (sym (asked.is ∙ ap (called asked.exchange) same))
        (subst (λ s. Q room x s (called asked.exchange (change x)) (came result)) (sym (asked.is_made ∙ ap (λ before. call before asked.answer asked.exchange ∷ told_by site asked.exchange) exchange))
        (kept asked.answer asked.exchange (came result) (subst (λ before. Reaches before asked.exchange) exchange asked.changes)))

    passed_keeps : (room : ℕ) (resource : Resource) (passed : List ℕ) (filter : ℕ) (next : Does Reached) → Keeps room next
        → (x y : State) (r : List Record) (result : Option Reached) → is_full x ≡ false
        → (asks site.listeners (before_of filter) >>= λ gate. filters.Gated site resource passed gate next) (counted x) r y result
        → Q room x r y (came result)
    passed_keeps room resource passed filter next h x y r result left (inl t) =
        subst (λ s. Q room x s y (came result)) (sym t.is_joined)
        (law.joins room x t.between y t.front t.back (came result)
        (asked_keeps room (before_of filter) counted x (λ gate e b changes. calls.before room filter x gate e b left changes)
        (counted x) t.between t.front (Some t.given) refl refl t.begins)
        (gated_keeps law room resource passed t.given next h t.between y t.back result t.goes_on))
    passed_keeps room resource passed filter next h x y r result left (inr t) =
        subst (λ b. Q room x r y (came b)) (sym t.1)
        (asked_keeps room (before_of filter) counted x (λ gate e b changes. calls.before room filter x gate e b left changes)
        (counted x) y r None refl refl t.0)

    befores_keep : (room : ℕ) (resource : Resource) (passed chain : List ℕ) → Keeps room (filters.Befores site resource passed chain)
    befores_keep room resource passed [] = gives_keeps law room record { passed = passed; ended = None }
    befores_keep room resource passed (filter ∷ chain) = λ x y r result h.
        let next = filters.Befores site resource (filter ∷ passed) chain in
        let ending = endings.faults site resource DispatchLimit in
        let call = (asks site.listeners (before_of filter) >>= λ gate. filters.Gated site resource passed gate next) in
        chosen_then (is_full x) (filters.ends_behind passed ending) (becomes counted >> call) x y r result
        (λ _ full. behind_keeps law room passed ending (faults_keeps law room resource DispatchLimit) x y r result full)
        (λ left made. passed_keeps room resource passed filter next (befores_keep room resource (filter ∷ passed) chain) x y r result left
        (becomes_then counted (λ _. call) x y r result made)) h

    afters_keep : (room : ℕ) (chain : List ℕ) → Keeps room (filters.Afters site.listeners chain)
    afters_keep room [] = gives_keeps law room tt
    afters_keep room (filter ∷ chain) =
        then_keeps law room (asks site.listeners (after_of filter)) (λ done. choose done (filters.Afters site.listeners chain) refuses)
        (λ x y r result h. asked_keeps room (after_of filter) (λ s. s) x (λ done e b changes. calls.after room filter x done e b changes) x y r result refl refl h)
        (λ done x y r result h. chosen_then done (filters.Afters site.listeners chain) refuses x y r result
        (λ _ on. afters_keep room chain x y r result on) (λ _ ended. refuses_keeps law room x y r result ended) h)

    pub within_keeps : WithinKeeps
    within_keeps room inner resource kind canon responds =
        let chain = site.chain canon.path (name_of site resource) kind in
        let behind = (λ (reached : Reached). tree.Responds site room inner resource kind canon reached.ended >>= λ result. filters.Afters site.listeners reached.passed >> gives result) in
        then_keeps law room wants_memory (λ _. filters.Befores site resource [] chain >>= behind) (wants_keeps law room)
        (λ _. then_keeps law room (filters.Befores site resource [] chain) behind (befores_keep room resource [] chain)
        (λ reached. then_keeps law room (tree.Responds site room inner resource kind canon reached.ended) (λ result. filters.Afters site.listeners reached.passed >> gives result)
        (responds reached.ended)
        (λ result. then_keeps law room (filters.Afters site.listeners reached.passed) (λ _. gives result) (afters_keep room reached.passed) (λ _. gives_keeps law room result))))

  -- A dispatch: its parts keep the property, and this gives the property of the whole.
  module _ (room : ℕ) (kind : Kind) (canon : Canon) (given : State → List Record → State → Bool → Type 0) (opens : OpensTo given room kind canon) where
    left_gives : (x between y : State) (r front back : List Record) (finished : Finished) (result : Option Finished)
        → Q room (on_exchange (begun site kind canon) x) front between true
        → r ≡ front ++ back → (leaves >> gives finished) between back y result → given x r y (came result)
    left_gives x between y r front back finished result inside joined (inr t) = absurd_result tt t.0.4
    left_gives x between y r front back finished result inside joined (inl t) =
        let z = t.begins.0 in
        let none : back ≡ [] = t.is_joined ∙ ap (λ s. s ++ t.back) t.begins.2 ∙ t.goes_on.0 in
        subst (λ o. given x r y (came o)) (sym t.goes_on.2) (subst (λ s. given x r s true) (sym (t.goes_on.1 ∙ t.begins.3))
        (subst (λ s. given x s (with_exchange z between) true) (sym (joined ∙ ap (λ s. front ++ s) none ∙ append-nil front))
        (opens.ends x between z front inside t.begins.1)))

    begun_gives : (within : Does Finished) (x y : State) (r : List Record) (result : Option Finished) → Keeps room within
        → (within >>= λ finished. leaves >> gives finished) (on_exchange (begun site kind canon) x) r y result → given x r y (came result)
    begun_gives within x y r result kept (inr t) =
        subst (λ b. given x r y (came b)) (sym t.1) (opens.breaks x y r (kept (on_exchange (begun site kind canon) x) y r None t.0))
    begun_gives within x y r result kept (inl t) =
        left_gives x t.between y r t.front t.back t.given result
        (kept (on_exchange (begun site kind canon) x) t.between t.front (Some t.given) t.begins) t.is_joined t.goes_on

    pub dispatch_gives : (inner : Kind → Canon → Does Finished)
        → Keeps room (tree.Within site room inner (chosen site canon.path).resource kind canon)
        → (x y : State) (r : List Record) (result : Option Finished) → tree.Dispatch site room inner kind canon x r y result → given x r y (came result)
    dispatch_gives inner kept x y r result h =
        let within = tree.Within site room inner (chosen site canon.path).resource kind canon in
        elim (tries_then (on_exchange (begun site kind canon)) (λ _. within >>= λ finished. leaves >> gives finished) x y r result h) [
          | inr not ↦ subst (λ o. given x r y (came o)) (sym not.2) (subst (λ s. given x r s false) (sym not.1) (subst (λ s. given x s x false) (sym not.0) (opens.stays x)))
          | inl done ↦ begun_gives within x y r result kept done
        ]

  module _ (law : Steps) (within : WithinKeeps) where
    pub tree_keeps : (room : ℕ) (kind : Kind) (opens : Opens kind) (canon : Canon) → Keeps room (Tree site room kind canon)
    unfolding Tree
    tree_keeps zero kind opens canon x y r result h = absurd h
    tree_keeps (suc room) kind opens canon x y r result h =
        let inner = Tree site room in
        dispatch_gives room kind canon (Q (suc room)) (opens room canon) inner
        (within room inner (chosen site canon.path).resource kind canon
        (responds_keeps law room inner (tree_keeps room kinds.Forward law.forwards) (tree_keeps room kinds.Include law.includes) (chosen site canon.path).resource kind canon))
        x y r result h

    -- The parts of a dispatch keep the property.
    pub inside_keeps : (room : ℕ) (kind : Kind) (canon : Canon)
        → Keeps room (tree.Within site room (Tree site room) (chosen site canon.path).resource kind canon)
    inside_keeps room kind canon =
        within room (Tree site room) (chosen site canon.path).resource kind canon
        (responds_keeps law room (Tree site room) (tree_keeps room kinds.Forward law.forwards) (tree_keeps room kinds.Include law.includes) (chosen site canon.path).resource kind canon)

    -- The property of the parts gives the property of the dispatch.
    pub tree_gives : (given : State → List Record → State → Bool → Type 0) (room : ℕ) (kind : Kind) (canon : Canon)
        → ((left : ℕ) → OpensTo given left kind canon)
        → (x y : State) (r : List Record) (result : Option Finished) → Tree site room kind canon x r y result → given x r y (came result)
    unfolding Tree
    tree_gives given zero kind canon opens x y r result h = absurd h
    tree_gives given (suc room) kind canon opens x y r result h =
        dispatch_gives room kind canon given (opens room) (Tree site room) (inside_keeps room kind canon) x y r result h
