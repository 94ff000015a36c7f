-- Messages that are handled wrongly are not lawful.
use Rattle.std.proofs.Common.{◌≡◌, ℕ, Bool, true, false, inl, inr, List, [], ◌∷◌, ◌++◌, Option, None, Some, Result, Ok, Err, refl, sym, ap, ◌∙◌, subst}
use Rattle.std.proofs.lemmas.List.{append_cancel_left}
use Rattle.std.specs.Prelude.{codes, unwrap_or}
use Rattle.sv_admission.specs.Answer.{root_of}
use Rattle.sv_admission.specs.declared.answer.Answer.TheVariants as replies
use Rattle.sv_admission.specs.declared.answer.TheConstants.{SEE_OTHER}
use Rattle.sv_component.specs.Call.{Serviced}
use Rattle.sv_component.specs.Runs.{OfServlet, Record}
use Rattle.sv_component.specs.Steps.{ComponentSteps}
use Rattle.sv_component.specs.declared.answers.Gate.{Gate}
use Rattle.sv_component.specs.declared.answers.Step.{Step}
use Rattle.sv_context.specs.Answered.{Answered, Requested, SendsTo, Tells}
use Rattle.sv_context.specs.Conduct.{asked_of}
use Rattle.sv_context.specs.Handled.{state_in}
use Rattle.sv_context.specs.State.{ContextState}
use Rattle.sv_exchange.specs.Changing.{Change, SetHeader, SetStatus, answer, left_by}
use Rattle.sv_exchange.specs.State as exchanges
use Rattle.sv_exchange.specs.declared.exchange_fault.ExchangeFault.{ExchangeFault}
use Rattle.sv_headline.proofs.Calling.{StartsWith, served_calls, served_passes, then_of}
use Rattle.sv_headline.proofs.Leading.{some_is}
use Rattle.sv_headline.proofs.Hearing.{notified_in_order}
use Rattle.sv_headline.specs.Message.{IsBecause, IsDoneBy, IsLawfulMessage, MayEnter, exchange_for, findings_in, settled_for}
use Rattle.sv_headline.specs.Unlawful.{EntriesCallTheirServlet, EntriesPassTheirFirstFilter, GoesToFilter, GoesToServlet, LoginsAreOfTheirSession, MessagesAreHandledByTheirContext, OutcomesAreOfTheirContext, NotificationsAreInOrder, calls_from, calls_with, first_exchange, site}
use Rattle.sv_journal.specs.declared.entry.Entry.{Entry}
use Rattle.sv_listeners.specs.Telling.{told}
use Rattle.sv_login.specs.OutcomeLaws.{JustOneCaseHolds}
use Rattle.sv_login.specs.declared.outcome.Outcome.{Outcome}
use Rattle.sv_login.specs.declared.outcome.Outcome.TheVariants as outcomes
use Rattle.sv_mapping.specs.declared.kind.Kind.TheVariants as kinds
use Rattle.sv_run.specs.Contexts.{Handling}
use Rattle.sv_session.specs.declared.event.Event.{Event}
use Rattle.sv_session.specs.declared.event.Event.TheVariants.{RequestDestroyed, RequestInitialized}
use Rattle.sv_tree.proofs.Doing.{absurd_result}
use Rattle.sv_tree.specs.Does.{◌>>◌, gives, makes}
use Rattle.sv_tree.specs.Filters.{before_of}
use Rattle.sv_tree.specs.Served.{Served}
use Rattle.sv_tree.specs.Site.{Site}
use Rattle.sv_tree.specs.SiteOfDescriptor.{site_of}
use Rattle.sv_tree.specs.State.{State, on_exchange}
use Rattle.sv_tree.specs.Telling.{hears}
use Rattle.sv_uri.specs.declared.path.Canon.{Canon}

-- ---- the first call

no_end : (front : List Record) (made : Record) (back : List Record) → [] ≡ front ++ made ∷ back → ⊥
no_end [] made back same = absurd (cc)
no_end (one ∷ front) made back same = absurd (cc)

same_exchange : (place : ℕ) (one other : exchanges.State) (step its_step : Step) (left its_left : exchanges.State) (behind others : List Record)
    → OfServlet place (Serviced one 0 step left) ∷ behind ≡ OfServlet place (Serviced other 0 its_step its_left) ∷ others → one ≡ other
same_exchange place one other step its_step left its_left behind others same = cc

same_first : (one other : Record) (behind others : List Record) → one ∷ behind ≡ other ∷ others → one ≡ other
same_first one other behind others same = cc

module _ {S F L : Type 0} (moving : ComponentSteps S F L) where
  -- the dispatch of a request that enters begins with a call, and so do its calls after the listeners are notified
  entered_starts : {A : Type 0} (call : A → exchanges.State → Record) (handling : Handling (ContextState S F L)) (made : List Record)
      → MayEnter handling.context handling.request → IsLawfulMessage moving handling made
      → ((y : State) (r : List Record) (given : Unit {0})
      → Served (site_of handling.context.content) kinds.Request (asked_of handling.context handling.request).canon
      (state_in handling.context (exchange_for handling.context handling.request outcomes.Entered)) r y (Some given)
      → StartsWith call r)
      → (answer : A) × (left : exchanges.State) × (behind : List Record)
      × (made ≡ told RequestInitialized (site moving handling made).listeners ++ call answer left ∷ behind)
  entered_starts call handling made may (inr out) starts = absurd (out.0 may)
  entered_starts call handling made may (inl enters) starts =
      let context = handling.context in
      let its_site = site_of context.content in
      let canon = (asked_of context handling.request).canon in
      let first = state_in context (exchange_for context handling.request outcomes.Entered) in
      let last = state_in handling.after enters.1.exchange in
      let dispatch = Served its_site kinds.Request canon in
      let ends = λ (given : Unit {0}). hears its_site.listeners RequestDestroyed in
      let tells = then_of (gives tt) (λ _. Requested its_site dispatch) first last made tt enters.1.answers in
      let hearing = then_of (hears its_site.listeners RequestInitialized) (λ _. dispatch >> hears its_site.listeners RequestDestroyed) tells.between last tells.back tt tells.goes_on in
      let serving = then_of dispatch ends hearing.between last hearing.back tt hearing.goes_on in
      let same : hearing.between ≡ first = hearing.begins.1 ∙ tells.begins.1 in
      let calls = starts serving.between serving.front serving.given
      (subst (λ (state : State). dispatch state serving.front serving.between (Some serving.given)) same serving.begins) in (
        calls.answer,
        calls.left,
        calls.behind ++ serving.back,
        tells.is_joined
            ∙ ap (λ front. front ++ tells.back) tells.begins.0
            ∙ hearing.is_joined
            ∙ ap (λ front. front ++ hearing.back) hearing.begins.0
            ∙ ap (λ back. told RequestInitialized its_site.listeners ++ back) (serving.is_joined ∙ ap (λ front. front ++ serving.back) calls.are),
      )

  -- the calls of a request that enters and goes to a servlet
  entered_calls : (handling : Handling (ContextState S F L)) (made : List Record) (place : ℕ) → GoesToServlet moving handling made place
      → IsLawfulMessage moving handling made
      → (step : Step) × (left : exchanges.State) × (behind : List Record)
      × (made ≡ calls_with moving handling made place (first_exchange moving handling made) step left behind)
  entered_calls handling made place goes lawful =
      let context = handling.context in
      entered_starts (λ (step : Step) left. OfServlet place (Serviced (first_exchange moving handling made) 0 step left)) handling made goes.may lawful
      (λ y r given. served_calls (site_of context.content) place (asked_of context handling.request).canon
      (state_in context (exchange_for context handling.request outcomes.Entered)) y r given goes.chosen_is goes.no_filters goes.serving refl)

  -- the calls of a request that enters and goes to a filter
  entered_passes : (handling : Handling (ContextState S F L)) (made : List Record) (filter : ℕ) → GoesToFilter moving handling made filter
      → IsLawfulMessage moving handling made
      → (gate : Gate) × (left : exchanges.State) × (behind : List Record)
      × (made ≡ calls_from moving handling made (before_of filter (first_exchange moving handling made) gate left) behind)
  entered_passes handling made filter goes lawful =
      let context = handling.context in
      entered_starts (before_of filter (first_exchange moving handling made)) handling made goes.may lawful
      (λ y r given. served_passes (site_of context.content) filter goes.others (asked_of context handling.request).canon
      (state_in context (exchange_for context handling.request outcomes.Entered)) y r given goes.chain_is refl)

  pub entries_call_their_servlet : EntriesCallTheirServlet moving
  entries_call_their_servlet handling made place goes lawful =
      let calls = entered_calls handling made place goes lawful in
      record {
        step = calls.0;
        left = calls.1;
        behind = calls.2;
        calls = calls.3;
        nothing_called = λ entries its.
            let none = entered_calls (record handling { entries = entries }) [] place
            (record { may = goes.may; chosen_is = goes.chosen_is; no_filters = goes.no_filters; serving = goes.serving }) its in
            no_end (told RequestInitialized (site moving handling made).listeners) (OfServlet place (Serviced (first_exchange moving handling made) 0 none.0 none.1)) none.2 none.3;
        another_exchange = λ entries exchange its_step its_left others apart its.
            let with_other = calls_with moving handling made place exchange its_step its_left others in
            let same = entered_calls (record handling { entries = entries }) with_other place
            (record { may = goes.may; chosen_is = goes.chosen_is; no_filters = goes.no_filters; serving = goes.serving }) its in
            apart
            (same_exchange place exchange (first_exchange moving handling made) its_step same.0 its_left same.1 others same.2
            (append_cancel_left (told RequestInitialized (site moving handling made).listeners) _ _ same.3));
      }

  pub entries_pass_their_first_filter : EntriesPassTheirFirstFilter moving
  entries_pass_their_first_filter handling made filter goes lawful =
      let calls = entered_passes handling made filter goes lawful in
      record {
        gate = calls.0;
        left = calls.1;
        behind = calls.2;
        calls = calls.3;
        nothing_called = λ entries its.
            let none = entered_passes (record handling { entries = entries }) [] filter
            (record { may = goes.may; others = goes.others; chain_is = goes.chain_is }) its in
            no_end (told RequestInitialized (site moving handling made).listeners) (before_of filter (first_exchange moving handling made) none.0 none.1) none.2 none.3;
        another_call = λ entries call others apart its.
            let same = entered_passes (record handling { entries = entries }) (calls_from moving handling made call others) filter
            (record { may = goes.may; others = goes.others; chain_is = goes.chain_is }) its in
            apart same.0 same.1
            (same_first call (before_of filter (first_exchange moving handling made) same.0 same.1) others same.2
            (append_cancel_left (told RequestInitialized (site moving handling made).listeners) _ _ same.3));
      }

  -- ---- notifications

  pub notifications_are_in_order : JustOneCaseHolds → NotificationsAreInOrder moving
  notifications_are_in_order one_case handling made lawful = record {
    order = notified_in_order moving one_case handling made lawful;
    other_order = λ entries others apart its. apart (notified_in_order moving one_case (record handling { entries = entries }) others its);
  }

  -- ---- the outcome

  module _ (one_case : JustOneCaseHolds) where
    -- the outcome of a message is that of its case
    done_by : (handling : Handling (ContextState S F L)) (made : List Record) (cause : Outcome) → IsBecause handling.context handling.request cause
        → IsLawfulMessage moving handling made → IsDoneBy moving handling made cause
    done_by handling made cause because (inl enters) =
        let found = findings_in handling.context handling.request in
        subst (IsDoneBy moving handling made)
        (sym ((one_case found outcomes.Entered).0 ((enters.0.shown, enters.0.no_login), (enters.0.why, enters.0.allowed))) ∙ (one_case found cause).0 because)
        enters.1
    done_by handling made cause because (inr out) =
        let found = findings_in handling.context handling.request in
        subst (IsDoneBy moving handling made) (sym ((one_case found out.1.cause).0 out.1.because) ∙ (one_case found cause).0 because) out.1.done

    pub outcomes_are_of_their_context : OutcomesAreOfTheirContext moving
    outcomes_are_of_their_context handling made cause because lawful = record {
      entry = (done_by handling made cause because lawful).noted;
      another_entry = λ other behind others apart its.
          apart (same_entry other _ behind _ (done_by (record handling { entries = other ∷ behind }) others cause because its).noted);
    }
      where
        same_entry : (one other : Entry) (behind others : List Entry) → one ∷ behind ≡ other ∷ others → one ≡ other
        same_entry one other behind others same = cc

  -- ---- logins

  kept_status : (status : ℕ) (said : Result Bool ExchangeFault) (x : exchanges.State) → (left_by said (SetStatus status) x).store ≡ x.store
  kept_status status (Ok true) x = refl
  kept_status status (Ok false) x = refl
  kept_status status (Err fault) x = refl

  kept_header : (name value : List ℕ) (said : Result Bool ExchangeFault) (x : exchanges.State) → (left_by said (SetHeader name value) x).store ≡ x.store
  kept_header name value (Ok true) x = refl
  kept_header name value (Ok false) x = refl
  kept_header name value (Err fault) x = refl

  made_of : (change : Change) (x y : State) (r : List Record) (given : Unit {0}) → makes change x r y (Some given)
      → y ≡ on_exchange (λ exchange. left_by (answer change exchange) change exchange) x
  made_of change x y r given (none, inl done) = done.0
  made_of change x y r given (none, inr not) = absurd_result given (sym not.1)

  told_of : (its_site : Site) (event : Option Event) (x y : State) (r : List Record) (given : Unit {0}) → Tells its_site event x r y (Some given) → y ≡ x
  told_of its_site None x y r given tells = tells.1
  told_of its_site (Some event) x y r given tells = tells.1

  -- a redirect leaves the sessions as they were
  redirect_keeps : (its_site : Site) (canon : Canon) (event : Option Event) (location : List ℕ) (x y : State) (r : List Record)
      → Answered its_site canon event (replies.SeeOther location) x r y (Some tt) → y.exchange.store ≡ x.exchange.store
  redirect_keeps its_site canon event location x y r done =
      let tells = then_of (Tells its_site event) (λ _. SendsTo location) x y r tt done in
      let named = λ (given : Unit {0}). makes (SetHeader (codes "location") location) in
      let sends = then_of (makes (SetStatus SEE_OTHER)) named tells.between y tells.back tt tells.goes_on in
      let one = made_of (SetStatus SEE_OTHER) tells.between sends.between sends.front sends.given sends.begins in
      let two = made_of (SetHeader (codes "location") location) sends.between y sends.back tt sends.goes_on in
      ap (λ (state : State). state.exchange.store) two
      ∙ kept_header (codes "location") location (answer (SetHeader (codes "location") location) sends.between.exchange) sends.between.exchange
      ∙ ap (λ (state : State). state.exchange.store) one
      ∙ kept_status SEE_OTHER (answer (SetStatus SEE_OTHER) tells.between.exchange) tells.between.exchange
      ∙ ap (λ (state : State). state.exchange.store) (told_of its_site event x tells.between tells.front tells.given tells.begins)

  module _ (one_case : JustOneCaseHolds) where
    login_store : (handling : Handling (ContextState S F L)) (made : List Record) (number : ℕ) (target : Option (List ℕ))
        → IsBecause handling.context handling.request (outcomes.LoggedIn number target) → IsLawfulMessage moving handling made
        → handling.after.store ≡ (settled_for handling.context handling.request (outcomes.LoggedIn number target)).store
    login_store handling made number target because lawful =
        let context = handling.context in
        let cause = outcomes.LoggedIn number target in
        let done = done_by one_case handling made cause because lawful in
        done.sessions
        ∙ redirect_keeps (site_of context.content) (asked_of context handling.request).canon (settled_for context handling.request cause).event
        (unwrap_or target (root_of context.content.context_path)) (state_in context (exchange_for context handling.request cause)) (state_in handling.after done.exchange)
        made done.answers

    pub logins_are_of_their_session : LoginsAreOfTheirSession moving
    logins_are_of_their_session handling made number target because lawful =
        let own = login_store handling made number target because lawful in
        record {
          sessions = own;
          other_sessions = λ store others apart its.
              apart (login_store (record handling { after = record handling.after { store = store } }) others number target because its ∙ sym own);
        }

  -- ---- the context

  pub messages_are_handled_by_their_context : MessagesAreHandledByTheirContext moving
  messages_are_handled_by_their_context before after place handling made text leads = record {
    there = leads.there;
    another_context = λ other others its_text its_after apart its. apart (some_is (sym its.there ∙ leads.there));
  }
