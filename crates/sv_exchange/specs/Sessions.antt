-- The session of a request (Jakarta Servlet 6.0, chapters 7, 11 and 13).
use Rattle.std.specs.Prelude.{ℕ, ◌+◌, Bool, true, false, ◌||◌, ◌&&◌, not, List, [], ◌∷◌, ◌++◌, map, Option, None, Some, is_some, Result, Ok, Err, if◌then◌else◌, bytes_eq, codes}
use Rattle.std.specs.List.{list_any}
use Rattle.std.specs.Option.{option_and_then, option_map, option_map_or}
use Rattle.sv_session.specs.declared.event.Event.{Event}
use Rattle.sv_session.specs.declared.event.Event.TheVariants.{SessionCreated, SessionDestroyed, AttributeAdded, AttributeReplaced, AttributeRemoved}
use Rattle.sv_realm.specs.declared.caller.Caller.{Caller}
use Rattle.sv_session.specs.Calls as calls
use Rattle.sv_session.specs.Id.{id_text}
use Rattle.sv_session.specs.Store.{attributes_of}
use Rattle.sv_session.specs.declared.slot.Attribute.{Attribute}
use Rattle.sv_session.specs.declared.session_fault.SessionFault.{SessionFault}
use Rattle.sv_session.specs.declared.session_fault.SessionFault.TheVariants as session_faults
use Rattle.sv_text.specs.Faults.{when}
use Rattle.sv_uri.specs.LocationField.{location}
use Rattle.sv_message.specs.declared.cookie_settings.CookieSettings.{CookieSettings}
use Rattle.sv_message.specs.declared.response.Cookie.{Cookie}
use Rattle.sv_exchange.specs.declared.exchange_fault.ExchangeFault.{ExchangeFault}
use Rattle.sv_exchange.specs.declared.exchange_fault.ExchangeFault.TheVariants as faults
use Rattle.sv_exchange.specs.State.{State}

-- The fault of the exchange for a refused call on sessions.
abbrev pub fault_of : SessionFault → ExchangeFault
fault_of session_faults.TooMany = faults.TooManySessions
fault_of session_faults.SerialSpent = faults.SerialSpent
fault_of session_faults.NoSuch = faults.NoSession
fault_of session_faults.NoMemory = faults.NoMemory
fault_of session_faults.TooLarge = faults.TooLarge

-- The number of the request's session, if it is alive.
abbrev pub session_of : State → Option ℕ
session_of x = option_and_then (λ number. option_map (λ id. number) (calls.id_of number x.store)) x.session

abbrev pub has_session : State → Bool
has_session x = is_some (session_of x)

-- The id of the session.
abbrev pub session_id_of : State → Option (List ℕ)
session_id_of x = option_and_then (λ number. calls.id_of number x.store) x.session

-- The value of an attribute of the session.
abbrev pub session_value : List ℕ → State → Option (List ℕ)
session_value name x = option_and_then (λ number. calls.value_of number name x.store) (session_of x)

-- The attributes of the session, in the order of their first setting.
abbrev pub session_attributes_of : State → List Attribute
session_attributes_of x = option_map_or (λ number. attributes_of number x.store) (session_of x) []

-- Whether the caller has the role. Every caller has `**`, and none has `*`.
abbrev pub is_in_role : List ℕ → Option Caller → Bool
is_in_role role None = false
is_in_role role (Some caller) =
    bytes_eq role (codes "**") || (not (bytes_eq role (codes "*")) && list_any (λ own. bytes_eq own role) caller.roles)

-- Applies a change to the session with its number. Nothing changes if no session is alive.
abbrev pub on_session : (ℕ → State → State) → State → State
on_session change before = option_map_or (λ number. change number before) (session_of before) before

-- The path of a context, as it is written in a cookie.
abbrev pub context_cookie_path : List ℕ → List ℕ
context_cookie_path [] = codes "/"
context_cookie_path context_path = location context_path

-- The path under which the client sends the cookie back (section 7.1.1): the path of the settings, unchanged, or else
-- the context's.
abbrev pub cookie_path : Option (List ℕ) → List ℕ → List ℕ
cookie_path (Some path) context_path = path
cookie_path None context_path = context_cookie_path context_path

-- The cookie of the session with the id.
abbrev pub cookie_of : CookieSettings → List ℕ → List ℕ → Cookie
cookie_of settings context_path id = record {
  name = settings.name;
  id = id;
  path = cookie_path settings.path context_path;
  http_only = settings.http_only;
  max_age = settings.max_age;
}

-- The number and the cookie of the next session to be opened.
abbrev pub next_number : State → ℕ
next_number before = before.store.serial + 1

abbrev pub next_cookie : State → Cookie
next_cookie before = cookie_of before.cookie_settings before.context_path (id_text before.words (next_number before))

-- A session is opened (section 7.2).
abbrev pub opened : State → State
opened before = record before {
  store = calls.opened before.words before.moment before.store;
  session = Some (next_number before);
  cookie = Some (next_cookie before);
  events = before.events ++ SessionCreated (next_number before) ∷ [];
}

-- An attribute of the session is set (section 7.4).
abbrev pub setting_event : ℕ → List ℕ → Option (List ℕ) → Event
setting_event number name None = AttributeAdded number name
setting_event number name (Some value) = AttributeReplaced number name

abbrev pub with_attribute : List ℕ → List ℕ → ℕ → State → State
with_attribute name value number before = record before {
  store = calls.with_attribute number name value before.store;
  events = before.events ++ setting_event number name (calls.value_of number name before.store) ∷ [];
}

-- An attribute of the session is removed.
abbrev pub without_attribute : List ℕ → ℕ → State → State
without_attribute name number before = record before {
  store = calls.without_attribute number name before.store;
  events = before.events ++ AttributeRemoved number name ∷ [];
}

-- The session ends with its attributes (sections 7.6 and 11.3). The cookie of a committed response stays.
abbrev pub ending_events : ℕ → List Attribute → List Event
ending_events number attributes = SessionDestroyed number ∷ map (λ attribute. AttributeRemoved number attribute.name) attributes

abbrev pub ended : ℕ → State → State
ended number before = record before {
  store = calls.without number before.store;
  session = None;
  caller = None;
  cookie = if before.committed then before.cookie else None;
  events = before.events ++ ending_events number (attributes_of number before.store);
}

-- The caller leaves the session, which stays open (section 13.6.3).
abbrev pub without_caller : ℕ → State → State
without_caller number before = record before { store = calls.with_caller number None before.store }

abbrev pub logged_out : State → State
logged_out before = record (on_session without_caller before) { caller = None }

-- The result of a call that needs a session, and the faults of opening a session and of setting an attribute.
abbrev pub wants_session : State → Result Bool ExchangeFault
wants_session before = if has_session before then Ok true else Err faults.NoSession

abbrev pub opening_faults : State → List ExchangeFault
opening_faults before = when before.committed faults.Committed ++ map fault_of (calls.opening_faults before.store)

abbrev pub setting_faults : List ℕ → List ℕ → State → List ExchangeFault
setting_faults name value before =
    option_map_or (λ number. map fault_of (calls.setting_faults number name value before.store)) (session_of before) (faults.NoSession ∷ [])
