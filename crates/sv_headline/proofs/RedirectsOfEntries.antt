-- Only for a request that enters does a response name an internal location.
use Rattle.std.proofs.Common.{◌≡◌, ◌⊎◌, inl, inr, ℕ, List, [], ◌∷◌, ◌++◌, Option, None, Some, refl, sym, ap, ◌∙◌, subst, append_assoc, slice_get}
use Rattle.std.specs.List.{AllByRecursion}
use Rattle.std.specs.Option.{option_map}
use Rattle.std.specs.Prelude.{codes}
use Rattle.sv_admission.specs.Answer.{answer_to}
use Rattle.sv_admission.specs.declared.answer.Answer.{Answer}
use Rattle.sv_admission.specs.declared.answer.Answer.TheVariants as answers
use Rattle.sv_admission.specs.declared.answer.TheConstants.{SEE_OTHER}
use Rattle.sv_application.specs.HandingOver.{caller_names, handed_request}
use Rattle.sv_application.specs.Serving.{Serves}
use Rattle.sv_application.specs.declared.handing_over.HandedOver.{HandedOver}
use Rattle.sv_component.specs.Call as calls
use Rattle.sv_component.specs.Call.{Serviced}
use Rattle.sv_component.specs.Laws.{RunsMoveComponents}
use Rattle.sv_component.specs.Runs.{OfFilter, OfListener, OfServlet, Record}
use Rattle.sv_component.specs.Steps.{ComponentSteps}
use Rattle.sv_component.specs.declared.answers.Step.{Step}
use Rattle.sv_component.specs.declared.components.Named.{Named}
use Rattle.sv_context.specs.Answered.{Answered, Answers, Requested, SendsTo, Tells}
use Rattle.sv_context.specs.Conduct.{asked_of}
use Rattle.sv_context.specs.State.{ContextState}
use Rattle.sv_exchange.specs.Changing.{SetHeader, SetStatus}
use Rattle.sv_exchange.specs.Dispatches.{kind_of}
use Rattle.sv_exchange.specs.Fields.{first_value}
use Rattle.sv_exchange.specs.State as exchanges
use Rattle.sv_headline.proofs.HandingOver.{its_caller, its_step}
use Rattle.sv_headline.proofs.OwnFields.{AreAll, AreOwn, none_are_own}
use Rattle.sv_headline.proofs.Redirecting.{IsFair, IsOfRequest, Stay, error_stays, page_stays, request_stays, steps}
use Rattle.sv_headline.proofs.RefutingRuns.{message_of}
use Rattle.sv_application.specs.ProxyFields.{proxy_fields}
use Rattle.sv_headline.specs.HandedOver.{IsApplicationAt, IsHandingCall, IsOfApplication, IsRedirectOfEntry, HoldsOfOther, OnlyEntriesAreDispatched, OthersLeaveCaller, OthersLeaveFields, RedirectsAreOfEntries, RedirectsInRunsAreOfEntries, StepAsApplications, own_request}
use Rattle.sv_headline.specs.Message.{IsDoneBy, IsLawfulMessage, MayEnter, exchange_for, session_in, settled_for}
use Rattle.sv_login.specs.declared.outcome.Outcome.{Outcome}
use Rattle.sv_login.specs.declared.outcome.Outcome.TheVariants as outcomes
use Rattle.sv_mapping.specs.declared.kind.Kind.{Kind}
use Rattle.sv_mapping.specs.declared.kind.Kind.TheVariants as kinds
use Rattle.sv_message.specs.declared.response.Response.{Response}
use Rattle.sv_realm.specs.declared.caller.Caller.{Caller}
use Rattle.sv_run.specs.Contexts.{Handling}
use Rattle.sv_session.specs.declared.event.Event.{Event}
use Rattle.sv_session.specs.declared.event.Event.TheVariants.{RequestDestroyed, RequestInitialized}
use Rattle.sv_tree.proofs.Doing.{absurd_result, same_result}
use Rattle.sv_tree.proofs.Keeping.{Keeps, gives_keeps, makes_keeps, then_keeps}
use Rattle.sv_tree.specs.Does.{Does, ◌>>=◌, ◌>>◌, makes}
use Rattle.sv_tree.specs.Served.{Served, ShowsError}
use Rattle.sv_tree.specs.Site.{Site}
use Rattle.sv_tree.specs.SiteOfDescriptor.{site_of}
use Rattle.sv_tree.specs.State.{Exchange, State}
use Rattle.sv_tree.specs.Telling.{hears}
use Rattle.sv_tree.specs.declared.limits.TheConstants.{MAX_NESTING}
use Rattle.sv_uri.specs.declared.path.Canon.{Canon}

-- ---- answers

module _ (start : Exchange) (fresh : start.dispatches ≡ []) (Stays : Type 0) (Known : List ℕ → Type 0) (site : Site) where
  abbrev Stayed : {A : Type 0} → Does A → Type 0
  Stayed does = Keeps site (Stay start fresh Stays Known site) MAX_NESTING does

  hears_stay : (event : Event) → Stayed (hears site.listeners event)
  hears_stay event x y r result h fair is came = subst (λ (state : State). IsOfRequest start fresh Stays Known state.exchange) (sym h.1) is

  tells_stay : (event : Option Event) → Stayed (Tells site event)
  tells_stay None = gives_keeps site (Stay start fresh Stays Known site) (steps start fresh Stays Known site) MAX_NESTING tt
  tells_stay (Some event) = hears_stay event

  then_stay : (first : Does (Unit {0})) (next : Unit {0} → Does (Unit {0})) → Stayed first → ((value : Unit {0}) → Stayed (next value))
      → Stayed (first >>= next)
  then_stay first next one two = then_keeps site (Stay start fresh Stays Known site) (steps start fresh Stays Known site) MAX_NESTING first next one two

  requested_stay : (dispatches : Does (Unit {0})) → Stayed dispatches → Stayed (Requested site dispatches)
  requested_stay dispatches stay =
      then_stay (hears site.listeners RequestInitialized) (λ _. dispatches >> hears site.listeners RequestDestroyed) (hears_stay RequestInitialized)
      (λ _. then_stay dispatches (λ _. hears site.listeners RequestDestroyed) stay (λ _. hears_stay RequestDestroyed))

  sends_stay : (location : List ℕ) → Stayed (SendsTo location)
  sends_stay location =
      then_stay (makes (SetStatus SEE_OTHER)) (λ _. makes (SetHeader (codes "location") location))
      (makes_keeps site (Stay start fresh Stays Known site) (steps start fresh Stays Known site) MAX_NESTING (SetStatus SEE_OTHER) tt)
      (λ _. makes_keeps site (Stay start fresh Stays Known site) (steps start fresh Stays Known site) MAX_NESTING (SetHeader (codes "location") location) (inr (inl refl)))

  answers_stay : (canon : Canon) → canon.query ≡ start.client.query → (answer : Answer) → Stayed (Answers site canon answer)
  answers_stay canon query answers.Entered = requested_stay (Served site kinds.Request canon) (request_stays start fresh Stays Known site canon query)
  answers_stay canon query (answers.Page page) = requested_stay (Served site kinds.Forward page) (page_stays start fresh Stays Known site page)
  answers_stay canon query (answers.Error status None) = error_stays start fresh Stays Known site status None
  answers_stay canon query (answers.Error status (Some page)) =
      requested_stay (ShowsError site status (Some page)) (error_stays start fresh Stays Known site status (Some page))
  answers_stay canon query (answers.SeeOther location) = sends_stay location

  answered_stay : (canon : Canon) → canon.query ≡ start.client.query → (event : Option Event) (answer : Answer) → Stayed (Answered site canon event answer)
  answered_stay canon query event answer = then_stay (Tells site event) (λ _. Answers site canon answer) (tells_stay event) (λ _. answers_stay canon query answer)

-- ---- the calls of a message

module _ {S F L : Type 0} (moving : ComponentSteps S F L) (location_of : S → Option (List ℕ)) where
  -- a place has such a servlet, or not
  is_of : (context : ContextState S F L) (place : ℕ)
      → IsOfApplication moving location_of context place ⊎ (¬ (IsOfApplication moving location_of context place))
  is_of context place = by (slice_get context.servlets place) refl
    where
      located : (servlet : Named S) → slice_get context.servlets place ≡ Some servlet → (found : Option (List ℕ)) → location_of servlet.component ≡ found
          → IsOfApplication moving location_of context place ⊎ (¬ (IsOfApplication moving location_of context place))
      located servlet there (Some internal) is = inl (internal, (servlet, there, is))
      located servlet there None is =
          inr (λ its. absurd_result its.0 (sym is ∙ ap (λ (servlet : Named S). location_of servlet.component) (same_result _ _ (sym there ∙ its.1.1)) ∙ its.1.2))

      by : (found : Option (Named S)) → slice_get context.servlets place ≡ found
          → IsOfApplication moving location_of context place ⊎ (¬ (IsOfApplication moving location_of context place))
      by None none = inr (λ its. absurd_result its.1.0 (sym none ∙ its.1.1))
      by (Some servlet) there = located servlet there (location_of servlet.component) refl

  module _ (handling : Handling (ContextState S F L)) (made : List Record) (runs_move : RunsMoveComponents moving) (steps_as : StepAsApplications moving location_of)
      (lawful : IsLawfulMessage moving handling made) (start : Exchange) (fresh : start.dispatches ≡ []) where
    abbrev Stays : Type 0
    Stays = OthersLeaveCaller moving location_of handling.context made

    abbrev Known : List ℕ → Type 0
    Known = IsHandingCall moving location_of handling made

    abbrev Fields : Record → Type 0
    Fields = HoldsOfOther moving location_of handling.context (λ before after. proxy_fields after.fields ≡ proxy_fields before.fields)

    abbrev Callers : Record → Type 0
    Callers = HoldsOfOther moving location_of handling.context (λ before after. after.caller ≡ before.caller)

    known_by : (place : ℕ) (before after : exchanges.State) (turn : ℕ) (step : Step) (front behind : List Record) (internal : List ℕ)
        → made ≡ front ++ OfServlet place (Serviced before turn step after) ∷ behind → IsOfApplication moving location_of handling.context place
        → (kind : Kind) → kind_of before ≡ kind → kind_of before ≡ kinds.Request → Serves kind internal before step after → Known internal
    known_by place before after turn step front behind internal is its kinds.Request kind request serves = record {
      place = place;
      its = its;
      exchange = before;
      turn = turn;
      step = step;
      left = after;
      earlier = front;
      later = behind;
      call = is;
      kind = request;
      serves = serves;
    }
    known_by place before after turn step front behind internal is its kinds.Forward kind request serves = let no : kinds.Forward ≡ kinds.Request = sym kind ∙ request in cc
    known_by place before after turn step front behind internal is its kinds.Include kind request serves = let no : kinds.Include ≡ kinds.Request = sym kind ∙ request in cc
    known_by place before after turn step front behind internal is its kinds.Error kind request serves = let no : kinds.Error ≡ kinds.Request = sym kind ∙ request in cc

    fair_service : (place : ℕ) (before after : exchanges.State) (turn : ℕ) (step : Step) (front behind : List Record)
        → made ≡ front ++ OfServlet place (Serviced before turn step after) ∷ behind
        → Fields (OfServlet place (Serviced before turn step after)) → (Stays → Callers (OfServlet place (Serviced before turn step after)))
        → IsOfApplication moving location_of handling.context place ⊎ (¬ (IsOfApplication moving location_of handling.context place))
        → IsFair start fresh Stays Known (OfServlet place (Serviced before turn step after))
    fair_service place before after turn step front behind is fields caller (inl its) =
        let at : IsApplicationAt moving location_of handling.context place its.0 = its.1 in
        let stepped = its_step moving runs_move location_of steps_as handling place its.0 front behind (Serviced before turn step after) at (subst (IsLawfulMessage moving handling) is lawful) in
        let serves : Serves (kind_of before) stepped.0 before step after = stepped.2.1 in
        inl (stepped.0, λ request. known_by place before after turn step front behind stepped.0 is its (kind_of before) refl request serves, serves)
    fair_service place before after turn step front behind is fields caller (inr other) = inr (fields other, λ stays. caller stays other)

    fair_call : (call : Record) (front behind : List Record) → made ≡ front ++ call ∷ behind → Fields call → (Stays → Callers call)
        → IsFair start fresh Stays Known call
    fair_call (OfServlet place (Serviced before turn step after)) front behind is fields caller =
        fair_service place before after turn step front behind is fields caller (is_of handling.context place)
    fair_call (OfServlet place (calls.Inited config init)) front behind is fields caller = tt
    fair_call (OfServlet place (calls.Entered before gate after)) front behind is fields caller = tt
    fair_call (OfServlet place (calls.Left before done after)) front behind is fields caller = tt
    fair_call (OfServlet place (calls.Heard event)) front behind is fields caller = tt
    fair_call (OfServlet place calls.Destroyed) front behind is fields caller = tt
    fair_call (OfFilter place (Serviced before turn step after)) front behind is fields caller = tt
    fair_call (OfFilter place (calls.Inited config init)) front behind is fields caller = tt
    fair_call (OfFilter place (calls.Entered before gate after)) front behind is fields caller = (fields, caller)
    fair_call (OfFilter place (calls.Left before done after)) front behind is fields caller = (fields, caller)
    fair_call (OfFilter place (calls.Heard event)) front behind is fields caller = tt
    fair_call (OfFilter place calls.Destroyed) front behind is fields caller = tt
    fair_call (OfListener place event) front behind is fields caller = tt

    fair_calls : (front behind : List Record) → made ≡ front ++ behind → AllByRecursion Fields behind → (Stays → AllByRecursion Callers behind)
        → AllByRecursion (IsFair start fresh Stays Known) behind
    fair_calls front [] is fields caller = tt
    fair_calls front (call ∷ behind) is fields caller = (
      fair_call call front behind is fields.0 (λ stays. (caller stays).0),
      fair_calls (front ++ call ∷ []) behind (is ∙ sym (append_assoc front (call ∷ []) behind)) fields.1 (λ stays. (caller stays).1),
    )

-- ---- the response

module _ {S F L : Type 0} (moving : ComponentSteps S F L) where
  own_at_start : (handling : Handling (ContextState S F L)) (made : List Record)
      → handed_request (exchange_for handling.context handling.request outcomes.Entered) ≡ own_request moving handling made
  own_at_start handling made =
      let its = own_request moving handling made in
      ap (λ (caller : Option Caller). record { target = its.target; caller = caller_names caller; cookies = its.cookies })
      (its_caller handling.context.users (settled_for handling.context handling.request outcomes.Entered).is_renewed (session_in handling.context handling.request)
      (settled_for handling.context handling.request outcomes.Entered).store)

  module _ (runs_move : RunsMoveComponents moving) (location_of : S → Option (List ℕ)) (handling : Handling (ContextState S F L)) (made : List Record)
      (steps_as : StepAsApplications moving location_of) (lawful : IsLawfulMessage moving handling made)
      (fields : OthersLeaveFields moving location_of handling.context made) where
    abbrev StaysIn : Type 0
    StaysIn = OthersLeaveCaller moving location_of handling.context made

    abbrev KnownIn : List ℕ → Type 0
    KnownIn = IsHandingCall moving location_of handling made

    abbrev begin_of : Outcome → Exchange
    begin_of outcome = exchange_for handling.context handling.request outcome

    at_first : (outcome : Outcome) → IsOfRequest (begin_of outcome) refl StaysIn KnownIn (begin_of outcome)
    at_first outcome = record {
      uri = refl;
      query = refl;
      dispatches = tt;
      settings = refl;
      request_fields = refl;
      caller = λ stays. refl;
      kept = tt;
      are = none_are_own (handed_request (begin_of outcome)) StaysIn KnownIn;
    }

    at_last : (outcome : Outcome) (done : IsDoneBy moving handling made outcome) → IsOfRequest (begin_of outcome) refl StaysIn KnownIn done.exchange
    at_last outcome done =
        answered_stay (begin_of outcome) refl StaysIn KnownIn (site_of handling.context.content) (asked_of handling.context handling.request).canon refl
        (settled_for handling.context handling.request outcome).event (answer_to handling.context.content outcome) _ _ made (Some tt) done.answers
        (fair_calls moving location_of handling made runs_move steps_as lawful (begin_of outcome) refl [] made refl fields (λ stays. stays))
        (at_first outcome) refl

    -- a response that names an internal location has all fields
    all_there : (outcome : Outcome) (done : IsDoneBy moving handling made outcome) (internal : List ℕ)
        → first_value (codes "x-accel-redirect") handling.response.fields ≡ Some internal
        → AreAll (handed_request (begin_of outcome)) StaysIn KnownIn (proxy_fields handling.response.fields) internal
    all_there outcome done internal redirect =
        let same : handling.response.fields ≡ done.exchange.fields = ap (λ (response : Response). response.fields) done.response in
        let are : AreOwn (handed_request (begin_of outcome)) StaysIn KnownIn (proxy_fields handling.response.fields) =
        subst (λ its. AreOwn (handed_request (begin_of outcome)) StaysIn KnownIn (proxy_fields its)) (sym same) (at_last outcome done).are in
        elim are.redirect [
          | inl none ↦ absurd_result internal (sym none ∙ redirect)
          | inr some ↦ subst (AreAll (handed_request (begin_of outcome)) StaysIn KnownIn (proxy_fields handling.response.fields))
              (same_result some.0 internal (sym some.1 ∙ redirect)) some.2
        ]

    may_enter : OnlyEntriesAreDispatched moving → (internal : List ℕ) → KnownIn internal → MayEnter handling.context handling.request
    may_enter only internal known =
        only handling known.earlier known.later known.place known.exchange known.turn known.step known.left
        (subst (IsLawfulMessage moving handling) known.call lawful) known.kind

    of_entry : (may : MayEnter handling.context handling.request) (internal : List ℕ)
        → AreAll (handed_request (begin_of outcomes.Entered)) StaysIn KnownIn (proxy_fields handling.response.fields) internal
        → IsRedirectOfEntry moving location_of handling made internal
    of_entry may internal all =
        let own : handed_request (begin_of outcomes.Entered) ≡ own_request moving handling made = own_at_start handling made in
        record {
          may = may;
          called = all.known;
          target = all.target ∙ ap (λ (its : HandedOver). Some its.target) own;
          cookies = all.cookies ∙ ap (λ (its : HandedOver). its.cookies) own;
          caller = λ stays. all.caller stays ∙ ap (λ (its : HandedOver). option_map (λ names. names.name) its.caller) own;
          roles = λ stays. all.roles stays ∙ ap (λ (its : HandedOver). option_map (λ names. names.roles) its.caller) own;
        }

  redirect_by : OnlyEntriesAreDispatched moving → (runs_move : RunsMoveComponents moving) (location_of : S → Option (List ℕ)) (handling : Handling (ContextState S F L))
      (made : List Record) (internal : List ℕ) (steps_as : StepAsApplications moving location_of) (lawful : IsLawfulMessage moving handling made)
      → IsLawfulMessage moving handling made → OthersLeaveFields moving location_of handling.context made
      → first_value (codes "x-accel-redirect") handling.response.fields ≡ Some internal
      → IsRedirectOfEntry moving location_of handling made internal
  redirect_by only runs_move location_of handling made internal steps_as lawful (inl enters) fields redirect =
      of_entry runs_move location_of handling made steps_as lawful fields enters.0 internal
      (all_there runs_move location_of handling made steps_as lawful fields outcomes.Entered enters.1 internal redirect)
  redirect_by only runs_move location_of handling made internal steps_as lawful (inr out) fields redirect =
      absurd (out.0 (may_enter runs_move location_of handling made steps_as lawful fields only internal
      (all_there runs_move location_of handling made steps_as lawful fields out.1.cause out.1.done internal redirect).known))

  pub redirects_are_of_entries : RunsMoveComponents moving → OnlyEntriesAreDispatched moving → RedirectsAreOfEntries moving
  redirects_are_of_entries runs_move only location_of handling made internal steps_as lawful fields redirect =
      redirect_by only runs_move location_of handling made internal steps_as lawful lawful fields redirect

  pub redirects_in_runs_are_of_entries : {Words : Type 0} (draws : Words → ℕ × ℕ → Words → Type 0) → RedirectsAreOfEntries moving
      → RedirectsInRunsAreOfEntries moving draws
  redirects_in_runs_are_of_entries draws in_messages before after happenings answers lawful earlier later place text location_of handling made internal is steps_as fields redirect =
      in_messages location_of handling made internal steps_as
      (message_of moving draws before after happenings answers lawful earlier later place handling made text is).3 fields redirect
