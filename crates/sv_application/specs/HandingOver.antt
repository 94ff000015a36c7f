-- Requests that are handed over to an application behind a proxy, by fields of the response. nginx sends a request on
-- to the location that `x-accel-redirect` names.
use Rattle.std.specs.Prelude.{◌≡◌, ℕ, List, [], ◌∷◌, ◌++◌, codes, IfErr, IfSome, OnOk, Option, None, Some, Result, Ok, Err}
use Rattle.std.specs.Option.{option_map}
use Rattle.sv_application.specs.Cookies.{cookies_text, other_cookies}
use Rattle.sv_application.specs.Names.{encoded_name, roles_text}
use Rattle.sv_application.specs.declared.handing_over.CallerNames.{CallerNames}
use Rattle.sv_application.specs.declared.handing_over.HandedOver.{HandedOver}
use Rattle.sv_exchange.specs.Changing.{Change, SetHeader, after_all, answer, left_by}
use Rattle.sv_exchange.specs.Dispatches.{query_of}
use Rattle.sv_exchange.specs.Request.{client_uri_of}
use Rattle.sv_exchange.specs.State.{State}
use Rattle.sv_exchange.specs.declared.exchange_fault.ExchangeFault.{ExchangeFault}
use Rattle.sv_exchange.specs.declared.exchange_fault.ExchangeFault.TheVariants as faults
use Rattle.sv_realm.specs.declared.caller.Caller.{Caller}
use Rattle.sv_text.specs.Gives.{Gives}
use Rattle.sv_text.specs.Steps.{◌>>=◌}
use Rattle.sv_uri.specs.LocationField.{location}

-- ---- what the application receives of a request

abbrev pub query_text : Option (List ℕ) → List ℕ
query_text None = []
query_text (Some query) = codes "?" ++ query

-- the context path and the canonical path as a location (Jakarta Servlet 6.0, section 3.5), and the query
abbrev pub target : State → List ℕ
target exchange = location (client_uri_of exchange) ++ query_text (query_of exchange)

abbrev pub caller_names : Option Caller → Option CallerNames
caller_names caller = option_map (λ its. record { name = encoded_name its.name; roles = roles_text its.roles }) caller

abbrev pub joined_cookies : List (List ℕ) → Option (List ℕ)
joined_cookies [] = None
joined_cookies (cookie ∷ cookies) = Some (cookies_text (cookie ∷ cookies))

-- the cookies without that of the session
abbrev pub cookies : State → Option (List ℕ)
cookies exchange = joined_cookies (other_cookies exchange.cookie_settings.name exchange.request_fields)

abbrev pub handed_request : State → HandedOver
handed_request exchange = record { target = target exchange; caller = caller_names exchange.caller; cookies = cookies exchange }

-- ---- the fields that are set, in order

abbrev pub caller_fields : Option CallerNames → List Change
caller_fields None = []
caller_fields (Some names) =
    SetHeader (codes "x-application-caller") names.name ∷ SetHeader (codes "x-application-roles") names.roles ∷ []

abbrev pub cookie_fields : Option (List ℕ) → List Change
cookie_fields None = []
cookie_fields (Some text) = SetHeader (codes "x-application-cookie") text ∷ []

abbrev pub request_fields : HandedOver → List Change
request_fields request =
    SetHeader (codes "x-application-target") request.target ∷ caller_fields request.caller ++ cookie_fields request.cookies

-- the fields of a request that is handed over to the application at the internal location
abbrev pub all_fields : HandedOver → List ℕ → List Change
all_fields request internal = request_fields request ++ SetHeader (codes "x-accel-redirect") internal ∷ []

-- ---- the effect of setting them

-- the first refusal of calls that are made in order
abbrev pub first_answer : List Change → State → Result (Unit {0}) ExchangeFault
first_answer [] before = Ok tt
first_answer (change ∷ changes) before =
    answer change before >>= (λ _. first_answer changes (left_by (answer change before) change before))

-- the fault of a call, unless memory ran out
abbrev pub call_fault : ExchangeFault → Option ExchangeFault
call_fault faults.NoMemory = None
call_fault fault = Some fault

-- the calls before one of them were made and not refused, and that one is the first that is refused, with this fault; or
-- memory ran out before it
pub record IsCut (changes : List Change) (fault : ExchangeFault) (before after : State) : Type 0 where
  pub made : List Change
  pub next : Change
  pub others : List Change
  pub are : changes ≡ made ++ next ∷ others
  pub answered : first_answer made before ≡ Ok tt
  pub left : after ≡ after_all made before
  pub refused : IfSome (call_fault fault) (λ its. answer next after ≡ Err its)

-- the calls were made in order, up to the first that was refused
pub record Makes (changes : List Change) (before : State) (done : Result (Unit {0}) ExchangeFault) (after : State) : Type 0 where
  pub all : OnOk done (after ≡ after_all changes before)
  pub refusal : Gives call_fault done (first_answer changes before)
  pub cut : IfErr done (λ fault. IsCut changes fault before after)

-- the request of the exchange is handed over to the application at the internal location
abbrev pub HandsOver : List ℕ → State → Result (Unit {0}) ExchangeFault → State → Type 0
HandsOver internal before done after = Makes (all_fields (handed_request before) internal) before done after
