-- Requests that are handed over to an application behind a proxy: what they are handed over with is what the container
-- decided about (Jakarta Servlet 6.0, sections 3.5, 9.1 and 13.8).
use Rattle.std.specs.Prelude.{◌≡◌, ◌≢◌, ℕ, List, ◌∷◌, ◌++◌, codes, Option, None, Some, Result, slice_get}
use Rattle.std.specs.List.{AllByRecursion}
use Rattle.std.specs.Option.{option_map}
use Rattle.sv_admission.specs.Held.{caller_held}
use Rattle.sv_application.specs.Cookies.{other_cookies}
use Rattle.sv_application.specs.HandingOver.{Makes, all_fields, caller_names, joined_cookies, query_text}
use Rattle.sv_application.specs.ProxyFields.{OnExchange, SameProxyFields, proxy_fields}
use Rattle.sv_application.specs.Serving.{IsError, IsStepOf, ServesRequest, Steps}
use Rattle.sv_application.specs.declared.handing_over.HandedOver.{HandedOver}
use Rattle.sv_component.specs.Call as calls
use Rattle.sv_component.specs.Call.{Call, Serviced}
use Rattle.sv_component.specs.Runs.{OfFilter, OfServlet, Record}
use Rattle.sv_component.specs.Steps.{ComponentSteps}
use Rattle.sv_component.specs.declared.answers.Step.{Step}
use Rattle.sv_component.specs.declared.components.Named.{Named}
use Rattle.sv_context.specs.Conduct.{asked_of}
use Rattle.sv_context.specs.State.{ContextState}
use Rattle.sv_exchange.specs.Dispatches.{kind_of}
use Rattle.sv_exchange.specs.Fields.{first_value}
use Rattle.sv_exchange.specs.State as exchanges
use Rattle.sv_exchange.specs.declared.exchange_fault.ExchangeFault.{ExchangeFault}
use Rattle.sv_headline.specs.Message.{IsLawfulMessage, MayEnter, path_in, session_in, settled_for}
use Rattle.sv_headline.specs.Record.{IsLawfulRun}
use Rattle.sv_headline.specs.Transitions.{ContextAnswer, Transition}
use Rattle.sv_headline.specs.Unlawful.{GoesToServlet, calls_with, first_exchange}
use Rattle.sv_login.specs.declared.outcome.Outcome.TheVariants.{Entered}
use Rattle.sv_mapping.specs.declared.kind.Kind.TheVariants as kinds
use Rattle.sv_run.specs.Contexts.{Handling}
use Rattle.sv_run.specs.Events.{Happening}
use Rattle.sv_run.specs.Runs.{Answer}
use Rattle.sv_run.specs.State.{State}
use Rattle.sv_uri.specs.LocationField.{location}

module _ {S F L : Type 0} (moving : ComponentSteps S F L) (location_of : S → Option (List ℕ)) where
  -- servlets with an internal location take the steps of the class `Application`, and keep one
  abbrev pub StepAsApplications : Type 0
  StepAsApplications =
      (before after : S) (call : Call) (internal : List ℕ) → location_of before ≡ Some internal → moving.servlet before call after
      → (later : List ℕ) × (location_of after ≡ Some later) × Steps internal call later

  -- the servlet at the place of the context is such a servlet
  abbrev pub IsApplicationAt : ContextState S F L → ℕ → List ℕ → Type 0
  IsApplicationAt context place internal =
      (servlet : Named S) × (slice_get context.servlets place ≡ Some servlet) × (location_of servlet.component ≡ Some internal)

module _ {S F L : Type 0} (moving : ComponentSteps S F L) (handling : Handling (ContextState S F L)) (made : List Record) where
  -- what the request is handed over with: the canonical path in the context and the query, the caller of its session, and
  -- its cookies without that of the session
  abbrev pub own_request : HandedOver
  own_request = record {
    target = location (handling.context.content.context_path ++ path_in handling.context handling.request)
        ++ query_text (asked_of handling.context handling.request).canon.query;
    caller = caller_names
        (caller_held handling.context.users (session_in handling.context handling.request) (settled_for handling.context handling.request Entered).store);
    cookies = joined_cookies (other_cookies handling.context.content.app.session.cookie.name handling.request.message.fields);
  }

  -- the servlet is called first, and hands the request over to this location, unless memory runs out or a value is not
  -- valid for a field
  pub record IsHandedOver (place : ℕ) (internal : List ℕ) : Type 0 where
    pub step : Step
    pub left : exchanges.State
    pub behind : List Record
    pub calls : made ≡ calls_with moving handling made place (first_exchange moving handling made) step left behind
    pub done : Result (Unit {0}) ExchangeFault
    pub is_step : IsStepOf done step
    pub makes : Makes (all_fields own_request internal) (first_exchange moving handling made) done left

-- ---- the response

module _ {S F L : Type 0} (moving : ComponentSteps S F L) (location_of : S → Option (List ℕ)) (context : ContextState S F L) where
  abbrev pub IsOfApplication : ℕ → Type 0
  IsOfApplication place = (internal : List ℕ) × IsApplicationAt moving location_of context place internal

  -- this holds of the exchange before and after the call, if it is one of a filter, or of a servlet that is no such servlet
  abbrev pub HoldsOfOther : (exchanges.State → exchanges.State → Type 0) → Record → Type 0
  HoldsOfOther Holds (OfServlet place (Serviced before turn step after)) = ¬ (IsOfApplication place) → Holds before after
  HoldsOfOther Holds (OfFilter place (calls.Entered before gate after)) = Holds before after
  HoldsOfOther Holds (OfFilter place (calls.Left before done after)) = Holds before after
  HoldsOfOther Holds made = Unit {0}

  -- the other components leave these fields as they are
  abbrev pub OthersLeaveFields : List Record → Type 0
  OthersLeaveFields made = AllByRecursion (HoldsOfOther SameProxyFields) made

  -- the other components undo no login
  abbrev pub OthersLeaveCaller : List Record → Type 0
  OthersLeaveCaller made = AllByRecursion (HoldsOfOther (λ before after. after.caller ≡ before.caller)) made

module _ {S F L : Type 0} (moving : ComponentSteps S F L) (location_of : S → Option (List ℕ)) (handling : Handling (ContextState S F L))
    (made : List Record) where
  -- such a servlet is called with the dispatch of the request, and hands it over to this location
  pub record IsHandingCall (internal : List ℕ) : Type 0 where
    pub place : ℕ
    pub its : IsOfApplication moving location_of handling.context place
    pub exchange : exchanges.State
    pub turn : ℕ
    pub step : Step
    pub left : exchanges.State
    pub earlier : List Record
    pub later : List Record
    pub call : made ≡ earlier ++ OfServlet place (Serviced exchange turn step left) ∷ later
    pub kind : kind_of exchange ≡ kinds.Request
    pub serves : ServesRequest internal exchange step left

  -- the request enters, and the response hands it over with its own target, caller and cookies
  pub record IsRedirectOfEntry (internal : List ℕ) : Type 0 where
    pub may : MayEnter handling.context handling.request
    pub called : IsHandingCall internal
    pub target : (proxy_fields handling.response.fields).target ≡ Some (own_request moving handling made).target
    pub cookies : (proxy_fields handling.response.fields).cookies ≡ (own_request moving handling made).cookies
    pub caller : OthersLeaveCaller moving location_of handling.context made
        → (proxy_fields handling.response.fields).caller ≡ option_map (λ names. names.name) (own_request moving handling made).caller
    pub roles : OthersLeaveCaller moving location_of handling.context made
        → (proxy_fields handling.response.fields).roles ≡ option_map (λ names. names.roles) (own_request moving handling made).caller

module _ {S F L : Type 0} (moving : ComponentSteps S F L) where
  -- a request that enters and goes to such a servlet, without filters, is handed over as the container decided about it
  abbrev pub EntriesAreHandedOver : Type 0
  EntriesAreHandedOver =
      (location_of : S → Option (List ℕ)) (handling : Handling (ContextState S F L)) (made : List Record) (place : ℕ) (internal : List ℕ)
      → StepAsApplications moving location_of → IsApplicationAt moving location_of handling.context place internal
      → GoesToServlet moving handling made place → IsLawfulMessage moving handling made
      → IsHandedOver moving handling made place internal

  -- whatever the message, such a servlet changes nothing in any other dispatch than that of a request: not in a forward to
  -- a login page, not in an error page, not in an include
  abbrev pub OtherDispatchesHandNothingOver : Type 0
  OtherDispatchesHandNothingOver =
      (location_of : S → Option (List ℕ)) (handling : Handling (ContextState S F L)) (place : ℕ) (internal : List ℕ)
      (front behind : List Record) (exchange left : exchanges.State) (turn : ℕ) (step : Step)
      → StepAsApplications moving location_of → IsApplicationAt moving location_of handling.context place internal
      → IsLawfulMessage moving handling (front ++ OfServlet place (Serviced exchange turn step left) ∷ behind)
      → kind_of exchange ≢ kinds.Request → IsError 404 step × (left ≡ exchange)

  -- a servlet is called with a dispatch of a request only if the message enters; for any other message a login page is
  -- called with a forward, and an error page with a dispatch of its own
  abbrev pub OnlyEntriesAreDispatched : Type 0
  OnlyEntriesAreDispatched =
      (handling : Handling (ContextState S F L)) (front behind : List Record) (place : ℕ) (exchange : exchanges.State) (turn : ℕ) (step : Step) (left : exchanges.State)
      → IsLawfulMessage moving handling (front ++ OfServlet place (Serviced exchange turn step left) ∷ behind)
      → kind_of exchange ≡ kinds.Request → MayEnter handling.context handling.request

  -- if the other components leave these fields, a response names an internal location only if its request enters and is
  -- handed over, with its own target and cookies; if they undo no login either, its caller is that of its session
  abbrev pub RedirectsAreOfEntries : Type 0
  RedirectsAreOfEntries =
      (location_of : S → Option (List ℕ)) (handling : Handling (ContextState S F L)) (made : List Record) (internal : List ℕ)
      → StepAsApplications moving location_of → IsLawfulMessage moving handling made
      → OthersLeaveFields moving location_of handling.context made
      → first_value (codes "x-accel-redirect") handling.response.fields ≡ Some internal
      → IsRedirectOfEntry moving location_of handling made internal

  -- the same of each message of a lawful run
  module _ {Words : Type 0} (draws : Words → ℕ × ℕ → Words → Type 0) where
    abbrev pub RedirectsInRunsAreOfEntries : Type 0
    RedirectsInRunsAreOfEntries =
        (before after : State (ContextState S F L) Words) (happenings : List Happening) (answers : List (Answer (ContextState S F L)))
        (lawful : IsLawfulRun moving draws before happenings answers after) (earlier later : List (Transition S F L)) (place : ℕ) (text : List ℕ)
        (location_of : S → Option (List ℕ)) (handling : Handling (ContextState S F L)) (made : List Record) (internal : List ℕ)
        → lawful.transitions ≡ earlier ++ ContextAnswer place handling made text ∷ later
        → StepAsApplications moving location_of → OthersLeaveFields moving location_of handling.context made
        → first_value (codes "x-accel-redirect") handling.response.fields ≡ Some internal
        → IsRedirectOfEntry moving location_of handling made internal

module _ {S F L : Type 0} (moving : ComponentSteps S F L) (location_of : S → Option (List ℕ)) where
  -- the steps of the other components leave these fields: a servlet without an internal location never has one, and its
  -- calls leave them, as do those of filters
  pub record StepsLeaveFields : Type 0 where
    pub servlets : (before after : S) (call : Call) → location_of before ≡ None → moving.servlet before call after
        → (location_of after ≡ None) × OnExchange SameProxyFields call
    pub filters : (before after : F) (call : Call) → moving.filter before call after → OnExchange SameProxyFields call

  -- then in each message of a lawful run, a response names an internal location only if its request enters and is handed
  -- over with its own target and cookies
  abbrev pub OnlyEntriesAreHandedOver : {Words : Type 0} → (Words → ℕ × ℕ → Words → Type 0) → Type 0
  OnlyEntriesAreHandedOver {Words} draws =
      (before after : State (ContextState S F L) Words) (happenings : List Happening) (answers : List (Answer (ContextState S F L)))
      (lawful : IsLawfulRun moving draws before happenings answers after) (earlier later : List (Transition S F L)) (place : ℕ) (text : List ℕ)
      (handling : Handling (ContextState S F L)) (made : List Record) (internal : List ℕ)
      → lawful.transitions ≡ earlier ++ ContextAnswer place handling made text ∷ later
      → first_value (codes "x-accel-redirect") handling.response.fields ≡ Some internal
      → IsRedirectOfEntry moving location_of handling made internal

module _ {S F L : Type 0} (moving : ComponentSteps S F L) where
  abbrev pub StepsHandOverOnlyEntries : {Words : Type 0} → (Words → ℕ × ℕ → Words → Type 0) → Type 0
  StepsHandOverOnlyEntries draws =
      (location_of : S → Option (List ℕ)) → StepAsApplications moving location_of → StepsLeaveFields moving location_of
      → OnlyEntriesAreHandedOver moving location_of draws
