-- The status of an exchange is a status code, however its request is answered.
use Rattle.std.specs.Prelude.{◌==◌, ◌&&◌, codes, is_some, nat_le, not, if◌then◌else◌}
use Rattle.std.specs.Option.{option_map_or}
use Rattle.std.proofs.Common.{◌≡◌, ℕ, ◌≤◌, Bool, true, false, inl, inr, List, [], ◌∷◌, Option, None, Some, Result, Ok, Err, refl, sym, ap, subst, arith}
use Rattle.std.proofs.lemmas.Bool.{and_parts, leb-true}
use Rattle.http.specs.StatusCode.{IsStatusCode}
use Rattle.sv_admission.specs.declared.answer.Answer.{Answer}
use Rattle.sv_admission.specs.declared.answer.Answer.TheVariants.{Entered, Error, Page, SeeOther}
use Rattle.sv_admission.specs.declared.answer.TheConstants.{SEE_OTHER}
use Rattle.sv_component.specs.Runs.{Record}
use Rattle.sv_exchange.proofs.Reaching.{reaches_to}
use Rattle.sv_exchange.specs.Keeping.{broken_off}
use Rattle.sv_exchange.specs.Changing.{Change, SetStatus, SetHeader, AddHeader, Write, SetAttribute, Flush, SessionOpen, SessionSet, SessionRemove, SessionEnd, Logout, Reaches, after_all, answer, changed, is_open, is_settable, left_by}
use Rattle.sv_exchange.specs.Sessions.{ended, has_session, logged_out, on_session, opened, session_of, session_value, with_attribute, without_attribute, without_caller}
use Rattle.sv_exchange.specs.declared.exchange_fault.ExchangeFault.{ExchangeFault}
use Rattle.sv_exchange.specs.declared.limits.TheConstants.{LEAST_STATUS, MAX_STATUS, NOT_MODIFIED, RESET_CONTENT}
use Rattle.sv_session.specs.declared.event.Event.{Event}
use Rattle.sv_session.specs.declared.event.Event.TheVariants.{RequestDestroyed, RequestInitialized}
use Rattle.sv_mapping.specs.declared.kind.Kind.{Kind}
use Rattle.sv_mapping.specs.declared.kind.Kind.TheVariants as kinds
use Rattle.sv_tree.proofs.Keeping.{FilterSteps, Keeps, Opens, Steps, away_same, becomes_keeps, gives_keeps, keeps_keeps, then_keeps, tree_keeps, wants_keeps, within_keeps}
use Rattle.sv_tree.proofs.Doing.{chosen_then}
use Rattle.sv_tree.specs.Does.{Does, ◌>>=◌, ◌>>◌, becomes, makes, wants_memory}
use Rattle.sv_tree.specs.Endings.{keeps}
use Rattle.sv_tree.specs.Served.{Pages, Plain, breaks, Resets, Served, Settled, Shown, Shows, ShowsError, kept_field, plain_text, reset, sets, unless_committed}
use Rattle.sv_tree.specs.Site.{Site, begun}
use Rattle.sv_tree.specs.State.{Exchange, KeptError, KeptField, State, counted, on_exchange}
use Rattle.sv_tree.specs.Telling.{hears}
use Rattle.sv_tree.specs.Tree.{Tree}
use Rattle.sv_tree.specs.declared.finished.Finished.{Finished}
use Rattle.sv_tree.specs.declared.finished.Finished.TheVariants as finished
use Rattle.sv_tree.specs.declared.limits.TheConstants.{INTERNAL_SERVER_ERROR, MAX_NESTING}
use Rattle.sv_uri.specs.declared.path.Canon.{Canon}
use Rattle.sv_message.specs.Phrases.{phrase_of}
use Rattle.sv_context.specs.Answered.{Answered, Answers, Requested, Tells}

-- A status that can be set is a status code.
settable_code : (status : ℕ) → is_settable status ≡ true → IsStatusCode status
settable_code status h =
    let ranged = (and_parts _ (not (status == RESET_CONTENT)) (and_parts _ (not (status == NOT_MODIFIED)) h).0).0 in
    let bounds = and_parts (nat_le LEAST_STATUS status) (nat_le status MAX_STATUS) ranged in
    let low : LEAST_STATUS ≤ status = leb-true LEAST_STATUS status bounds.0 in
    let high : status ≤ MAX_STATUS = leb-true status MAX_STATUS bounds.1 in
    (omega (arith, low), omega (arith, high))

abbrev HasCode : Exchange → Type 0
HasCode x = IsStatusCode x.status

stated_code : (test : Bool) (status : ℕ) (x : Exchange) → (test ≡ true → IsStatusCode status) → HasCode x → HasCode (left_by (Ok test) (SetStatus status) x)
stated_code true status x h code = h refl
stated_code false status x h code = code

-- A change of the exchange leaves a status code, whether it is made or refused.
left_code : (said : Result Bool ExchangeFault) (change : Change) (x : Exchange) → HasCode (changed change x) → HasCode x → HasCode (left_by said change x)
left_code (Ok true) change x done code = done
left_code (Ok false) change x done code = code
left_code (Err fault) change x done code = code

on_session_code : (change : ℕ → Exchange → Exchange) (x : Exchange) → ((number : ℕ) → HasCode (change number x)) → HasCode x → HasCode (on_session change x)
on_session_code change x changes code = found_code (session_of x)
  where
    found_code : (found : Option ℕ) → HasCode (option_map_or (λ number. change number x) found x)
    found_code None = code
    found_code (Some number) = changes number

chosen_code : (test : Bool) (x y : Exchange) → HasCode x → HasCode y → HasCode (if test then x else y)
chosen_code true x y one other = one
chosen_code false x y one other = other

made_code : (change : Change) (x : Exchange) → HasCode x → HasCode (left_by (answer change x) change x)
made_code (SetStatus status) x code =
    stated_code (is_open x && is_settable status) status x (λ h. settable_code status (and_parts (is_open x) (is_settable status) h).1) code
made_code (SetHeader name value) x code = left_code (answer (SetHeader name value) x) (SetHeader name value) x code code
made_code (AddHeader name value) x code = left_code (answer (AddHeader name value) x) (AddHeader name value) x code code
made_code (Write bytes) x code = left_code (answer (Write bytes) x) (Write bytes) x code code
made_code (SetAttribute name value) x code = left_code (answer (SetAttribute name value) x) (SetAttribute name value) x code code
made_code Flush x code = left_code (answer Flush x) Flush x code code
made_code SessionOpen x code = left_code (answer SessionOpen x) SessionOpen x (chosen_code (has_session x) x (opened x) code code) code
made_code (SessionSet name value) x code =
    left_code (answer (SessionSet name value) x) (SessionSet name value) x (on_session_code (with_attribute name value) x (λ number. code) code) code
made_code (SessionRemove name) x code =
    left_code (answer (SessionRemove name) x) (SessionRemove name) x
    (chosen_code (is_some (session_value name x)) (on_session (without_attribute name) x) x (on_session_code (without_attribute name) x (λ number. code) code) code) code
made_code SessionEnd x code = left_code (answer SessionEnd x) SessionEnd x (on_session_code ended x (λ number. code) code) code
made_code Logout x code =
    left_code (answer Logout x) Logout x (chosen_code (is_some x.caller) (logged_out x) x (on_session_code without_caller x (λ number. code) code) code) code

all_code : (changes : List Change) (x : Exchange) → HasCode x → HasCode (after_all changes x)
all_code [] x code = code
all_code (change ∷ changes) x code = all_code changes (left_by (answer change x) change x) (made_code change x code)

changes_code : (x y : Exchange) → Reaches x y → HasCode x → HasCode y
changes_code x y changing code = let reached = reaches_to x y changing in subst HasCode (sym reached.1) (all_code reached.0 x code)

emptied_code : (test : Bool) (x : Exchange) → HasCode x → HasCode (if test then x else record x { buffer = [] })
emptied_code true x code = code
emptied_code false x code = code

begun_code : (site : Site) (kind : Kind) (canon : Canon) (x : Exchange) → HasCode x → HasCode (begun site kind canon x)
begun_code site kinds.Request canon x code = code
begun_code site kinds.Forward canon x code = code
begun_code site kinds.Include canon x code = code
begun_code site kinds.Error canon x code = code

-- A status code stays a status code.
abbrev Coded : ℕ → State → List Record → State → Bool → Type 0
Coded room x calls y came = HasCode x.exchange → HasCode y.exchange

module _ (site : Site) where
  opens : (kind : Kind) → Opens site Coded kind
  opens kind room canon = record {
    stays = λ x code. code;
    ends = λ x y z r h left code. subst IsStatusCode (ap (λ e. e.status) left.1) (h (begun_code site kind canon x.exchange code));
    breaks = λ x y r h code. h (begun_code site kind canon x.exchange code);
  }

  law : Steps site Coded
  law = record {
    stays = λ room x b code. code;
    joins = λ room x y z r s b one two code. two (one code);
    keeps = λ room x kept own code. code;
    makes = λ room x change own code. made_code change x.exchange code;
    empties = λ room x code. emptied_code x.exchange.committed x.exchange code;
    breaks = λ room x place turn step e left serving changes code. changes_code (counted x).exchange e changes code;
    serves = λ room x place turn step e left serving changes code.
        subst HasCode (sym (away_same place step (record x { exchange = record e { events = [] } }))) (changes_code (counted x).exchange e changes code);
    destroys = λ room x place b serving code. code;
    forwards = opens kinds.Forward;
    includes = opens kinds.Include;
  }

  filters : FilterSteps site Coded
  filters = record {
    before = λ room place x gate e b left changes code. changes_code (counted x).exchange e changes code;
    after = λ room place x done e b changes code. changes_code x.exchange e changes code;
  }

  abbrev KeepsCode : {A : Type 0} → Does A → Type 0
  KeepsCode does = Keeps site Coded 0 does

  dispatch_code : (kind : Kind) (canon : Canon) → KeepsCode (Tree site MAX_NESTING kind canon)
  dispatch_code kind canon = tree_keeps site Coded law (within_keeps site Coded law filters) MAX_NESTING kind (opens kind) canon

  then_code : {A B : Type 0} (first : Does A) (next : A → Does B) → KeepsCode first → ((value : A) → KeepsCode (next value)) → KeepsCode (first >>= next)
  then_code first next one two = then_keeps site Coded law 0 first next one two

  makes_code : (change : Change) → KeepsCode (makes change)
  makes_code change x y r result h code =
      elim h.1 [
        | inl done ↦ subst (λ s. HasCode s.exchange) (sym done.0) (made_code change x.exchange code)
        | inr not ↦ subst (λ s. HasCode s.exchange) (sym not.0) code
      ]

  sets_code : (field : Option KeptField) → KeepsCode (sets field)
  sets_code None = gives_keeps site Coded law 0 tt
  sets_code (Some field) = makes_code (SetHeader field.name field.value)

  resets_code : (status : ℕ) (field : Option KeptField) → KeepsCode (Resets status field)
  resets_code status field =
      then_code (becomes (on_exchange reset)) (λ _. makes (SetStatus status) >> sets field) (becomes_keeps site Coded law 0 (on_exchange reset) (λ x code. code))
      (λ _. then_code (makes (SetStatus status)) (λ _. sets field) (makes_code (SetStatus status)) (λ _. sets_code field))

  plain_code : (status : ℕ) (field : Option KeptField) → KeepsCode (Plain status field)
  plain_code status field =
      let typed = SetHeader (codes "content-type") (codes "text/plain") in
      let written = Write (plain_text status) in
      then_code (Resets status field) (λ _. makes typed >> makes written) (resets_code status field)
      (λ _. then_code (makes typed) (λ _. makes written) (makes_code typed) (λ _. makes_code written))

  unless_code : (next : Does (Unit {0})) → KeepsCode next → KeepsCode (unless_committed next)
  unless_code next h x y r result done =
      chosen_then x.exchange.committed breaks next x y r result
      (λ _ broke. becomes_keeps site Coded law 0 (on_exchange broken_off) (λ x code. code) x y r result broke) (λ _ went. h x y r result went) done

  shown_code : (status : ℕ) (field : Option KeptField) (ended : Finished) → KeepsCode (Shown status field ended)
  shown_code status field finished.Done = gives_keeps site Coded law 0 tt
  shown_code status field (finished.Error other text) = unless_code (Plain status field) (plain_code status field)
  shown_code status field (finished.Failed kind text) = unless_code (Plain status field) (plain_code status field)

  pages_code : (status : ℕ) (field : Option KeptField) (page : Option Canon) → KeepsCode (Pages site status field page)
  pages_code status field None = plain_code status field
  pages_code status field (Some page) =
      then_code (Resets status field) (λ _. Tree site MAX_NESTING kinds.Error page >>= Shown status field) (resets_code status field)
      (λ _. then_code (Tree site MAX_NESTING kinds.Error page) (Shown status field) (dispatch_code kinds.Error page) (shown_code status field))

  shows_code : (status : ℕ) (kind : Option (List ℕ)) → KeepsCode (Shows site status kind)
  shows_code status kind =
      let paged = λ (state : State). Pages site status (kept_field state.exchange.kept) (site.page status kind) state in
      unless_code (wants_memory >> paged)
      (then_code wants_memory (λ _. paged) (wants_keeps site Coded law 0)
      (λ _ x y r result h. pages_code status (kept_field x.exchange.kept) (site.page status kind) x y r result h))

  error_code : (status : ℕ) (page : Option Canon) → KeepsCode (ShowsError site status page)
  error_code status page =
      let kept : KeptError = record { status = status; text = phrase_of status; servlet = None; field = None } in
      let paged = Pages site status None page in
      then_code (keeps kept) (λ _. unless_committed paged) (keeps_keeps site Coded law 0 kept tt) (λ _. unless_code paged (pages_code status None page))

  settled_code : (ended : Finished) → KeepsCode (Settled site ended)
  settled_code finished.Done = gives_keeps site Coded law 0 tt
  settled_code (finished.Error status text) = shows_code status None
  settled_code (finished.Failed kind text) = shows_code INTERNAL_SERVER_ERROR (Some kind)

  served_code : (kind : Kind) (canon : Canon) → KeepsCode (Served site kind canon)
  served_code kind canon = then_code (Tree site MAX_NESTING kind canon) (Settled site) (dispatch_code kind canon) settled_code

  hears_code : (listeners : ℕ) (event : Event) → KeepsCode (hears listeners event)
  hears_code listeners event x y r result h code = subst (λ s. HasCode s.exchange) (sym h.1) code

  requested_code : (dispatches : Does (Unit {0})) → KeepsCode dispatches → KeepsCode (Requested site dispatches)
  requested_code dispatches h =
      then_code (hears site.listeners RequestInitialized) (λ _. dispatches >> hears site.listeners RequestDestroyed) (hears_code site.listeners RequestInitialized)
      (λ _. then_code dispatches (λ _. hears site.listeners RequestDestroyed) h (λ _. hears_code site.listeners RequestDestroyed))

  answers_code : (canon : Canon) (answer : Answer) → KeepsCode (Answers site canon answer)
  answers_code canon Entered = requested_code (Served site kinds.Request canon) (served_code kinds.Request canon)
  answers_code canon (Page page) = requested_code (Served site kinds.Forward page) (served_code kinds.Forward page)
  answers_code canon (Error status None) = error_code status None
  answers_code canon (Error status (Some page)) = requested_code (ShowsError site status (Some page)) (error_code status (Some page))
  answers_code canon (SeeOther location) =
      then_code (makes (SetStatus SEE_OTHER)) (λ _. makes (SetHeader (codes "location") location)) (makes_code (SetStatus SEE_OTHER))
      (λ _. makes_code (SetHeader (codes "location") location))

  tells_code : (event : Option Event) → KeepsCode (Tells site event)
  tells_code None = gives_keeps site Coded law 0 tt
  tells_code (Some event) = hears_code site.listeners event

  -- An answer leaves a status code if there was one.
  pub answered_code : (canon : Canon) (event : Option Event) (answer : Answer) (x y : State) (calls : List Record) (result : Option (Unit {0}))
      → Answered site canon event answer x calls y result → IsStatusCode x.exchange.status → IsStatusCode y.exchange.status
  answered_code canon event answer x y calls result h =
      then_code (Tells site event) (λ _. Answers site canon answer) (tells_code event) (λ _. answers_code canon answer) x y calls result h
