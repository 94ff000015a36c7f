-- The laws of every dispatch, and of every response to a request (Jakarta Servlet 6.0, chapters 2, 6 and 9).
use Rattle.std.specs.Prelude.{◌≡◌, ◌⊎◌, ℕ, ◌+◌, ◌≤◌, ◌==◌, Bool, true, false, ◌||◌, List, [], ◌∷◌, ◌++◌, codes, decimal, length, not, Option, None, Some, slice_set, if◌then◌else◌}
use Rattle.std.specs.List.{filter, flat_map}
use Rattle.sv_component.specs.Call.{Destroyed, Entered, Left, Serviced}
use Rattle.sv_component.specs.Runs.{OfFilter, OfListener, OfServlet, Record}
use Rattle.sv_component.specs.declared.answers.Gate.TheVariants as gates
use Rattle.sv_component.specs.declared.answers.Step.TheVariants as steps
use Rattle.sv_exchange.specs.Changing.{Change}
use Rattle.sv_exchange.specs.Dispatches.{client_in, is_include_kind, is_within_include}
use Rattle.sv_session.specs.declared.event.Event.{Event}
use Rattle.sv_mapping.specs.declared.kind.Kind.{Kind}
use Rattle.sv_mapping.specs.declared.kind.Kind.TheVariants as kinds
use Rattle.sv_session.specs.Calls.{HoldsCaller, caller_of}
use Rattle.sv_session.specs.Expiry.{HasNoneExpired}
use Rattle.sv_session.specs.Store.{IsOrderly}
use Rattle.sv_tree.specs.Does.{gives, makes}
use Rattle.sv_tree.specs.Moving.{IsMoved, MovesSessions}
use Rattle.sv_tree.specs.Served.{Served, ShowsError}
use Rattle.sv_tree.specs.Site.{Resource, Site, name_of, paths_in}
use Rattle.sv_tree.specs.State.{Exchange, KeptError, KeptField, State, Standing, Serving, Gone, Away, moment_after, standing_at}
use Rattle.sv_tree.specs.Telling.{all_told, hears}
use Rattle.sv_tree.specs.Tree.{Tree}
use Rattle.sv_tree.specs.declared.finished.Finished.{Finished}
use Rattle.sv_tree.specs.declared.finished.Finished.TheVariants.{Done, Error, Failed}
use Rattle.sv_tree.specs.declared.limits.TheConstants.{INTERNAL_SERVER_ERROR, MAX_CALLS, MAX_NESTING, METHOD_NOT_ALLOWED, SERVICE_UNAVAILABLE}
use Rattle.sv_uri.specs.declared.path.Canon.{Canon}

-- The calls of a dispatch, with their results and the exchanges that they leave, determine its final state and its
-- outcome.
abbrev pub CallsDecide : Site → Type 0
CallsDecide site =
    (room : ℕ) (kind : Kind) (canon : Canon) (before after other : State) (calls : List Record) (finished also : Finished)
    → Tree site room kind canon before calls after (Some finished)
    → Tree site room kind canon before calls other (Some also)
    → (after ≡ other) × (finished ≡ also)

-- Removes the filter that passed last, which must be the one at this place.
abbrev pub close : ℕ → List ℕ → Option (List ℕ)
close place [] = None
close place (filter ∷ owed) = if filter == place then Some owed else None

-- The filters that passed and still await their `after`, last first; none if a call is out of order.
abbrev pub owed_after : Record → List ℕ → Option (List ℕ)
owed_after (OfFilter place (Entered before gates.Pass after)) owed = Some (place ∷ owed)
owed_after (OfFilter place (Entered before gate after)) owed = Some owed
owed_after (OfFilter place (Left before done after)) owed = close place owed
owed_after (OfFilter place call) owed = None
owed_after made owed = Some owed

abbrev pub owed_then : List Record → Option (List ℕ) → Option (List ℕ)
owed_then [] owed = owed
owed_then (made ∷ others) None = None
owed_then (made ∷ others) (Some owed) = owed_then others (owed_after made owed)

-- Each filter that passed is called exactly once more within its dispatch, last first. No other filter is called again.
abbrev pub FiltersAreClosed : Site → Type 0
FiltersAreClosed site =
    (room : ℕ) (kind : Kind) (canon : Canon) (before after : State) (calls : List Record) (finished : Finished) (owed : List ℕ)
    → Tree site room kind canon before calls after (Some finished)
    → owed_then calls (Some owed) ≡ Some owed

-- The availability of each servlet after a call.
abbrev pub stands_after : ℕ → Record → List Standing → List Standing
stands_after moment (OfServlet place (Serviced before turn (steps.Unavailable (Some seconds)) after)) standings =
    slice_set standings place (Away (moment_after moment seconds))
stands_after moment (OfServlet place Destroyed) standings = slice_set standings place Gone
stands_after moment made standings = standings

abbrev pub stands_after_all : ℕ → List Record → List Standing → List Standing
stands_after_all moment [] standings = standings
stands_after_all moment (made ∷ others) standings = stands_after_all moment others (stands_after moment made standings)

-- A servlet is called or destroyed only while it is in service. It is never initialized.
abbrev pub IsOfServing : ℕ → List Standing → Record → Type 0
IsOfServing moment standings (OfServlet place (Serviced before turn step after)) = standing_at moment place standings ≡ Serving
IsOfServing moment standings (OfServlet place Destroyed) = standing_at moment place standings ≡ Serving
IsOfServing moment standings (OfServlet place call) = ⊥
IsOfServing moment standings made = Unit {0}

abbrev pub AreOfServing : ℕ → List Standing → List Record → Type 0
AreOfServing moment standings [] = Unit {0}
AreOfServing moment standings (made ∷ others) = IsOfServing moment standings made × AreOfServing moment (stands_after moment made standings) others

abbrev pub OnlyServingAreCalled : Site → Type 0
OnlyServingAreCalled site =
    (room : ℕ) (kind : Kind) (canon : Canon) (before after : State) (calls : List Record) (result : Option Finished)
    → Tree site room kind canon before calls after result
    → AreOfServing before.exchange.moment before.standings calls
    × ((finished : Finished) → result ≡ Some finished → after.standings ≡ stands_after_all before.exchange.moment calls before.standings)

-- The calls that count: `before` and `service`.
abbrev pub count : Record → ℕ
count (OfFilter place (Entered before gate after)) = 1
count (OfServlet place (Serviced before turn step after)) = 1
count made = 0

abbrev pub count_all : List Record → ℕ
count_all [] = 0
count_all (made ∷ others) = count made + count_all others

-- Each such call is counted, and none exceeds the limit.
abbrev pub CallsAreCounted : Site → Type 0
CallsAreCounted site =
    (room : ℕ) (kind : Kind) (canon : Canon) (before after : State) (calls : List Record) (result : Option Finished)
    → Tree site room kind canon before calls after result
    → (after.exchange.calls ≡ count_all calls + before.exchange.calls)
    × (before.exchange.calls ≤ MAX_CALLS → after.exchange.calls ≤ MAX_CALLS)

-- The nesting depth of a call; 0 for calls of listeners and `destroy`.
abbrev pub depth : Record → ℕ
depth (OfFilter place (Entered before gate after)) = length before.dispatches
depth (OfFilter place (Left before done after)) = length before.dispatches
depth (OfServlet place (Serviced before turn step after)) = length before.dispatches
depth made = 0

abbrev pub AreWithin : ℕ → List Record → Type 0
AreWithin bound [] = Unit {0}
AreWithin bound (made ∷ others) = (depth made ≤ bound) × AreWithin bound others

-- No call is nested deeper than the limit.
abbrev pub DispatchesNest : Site → Type 0
DispatchesNest site =
    (room : ℕ) (kind : Kind) (canon : Canon) (before after : State) (calls : List Record) (result : Option Finished)
    → Tree site room kind canon before calls after result
    → AreWithin (length before.exchange.dispatches + room) calls

-- A request takes at most 1,024 counted calls, at most 16 dispatches deep.
abbrev pub RequestsAreBounded : Site → Type 0
RequestsAreBounded site =
    (kind : Kind) (canon : Canon) (before after : State) (calls : List Record) (result : Option (Unit {0}))
    → before.exchange.calls ≡ 0 → before.exchange.dispatches ≡ []
    → Served site kind canon before calls after result
    → (count_all calls ≤ MAX_CALLS) × AreWithin MAX_NESTING calls

-- No calls, or those of a dispatch to an error page.
abbrev pub PageCalls : Site → List Record → Type 0
PageCalls site calls =
    (calls ≡ [])
    ⊎ ((page : Canon) × (before after : State) × (ended : Option Finished) × Tree site MAX_NESTING kinds.Error page before calls after ended)

-- The calls of one dispatch, followed by those of at most one error page.
pub record OnePage (site : Site) (kind : Kind) (canon : Canon) (before : State) (calls : List Record) : Type 0 where
  pub front : List Record
  pub back : List Record
  pub are : calls ≡ front ++ back
  pub between : State
  pub finished : Option Finished
  pub dispatch : Tree site MAX_NESTING kind canon before front between finished
  pub page : PageCalls site back

-- A response is made by one dispatch, followed by at most one dispatch to an error page.
abbrev pub AnswersOnce : Site → Type 0
AnswersOnce site =
    (kind : Kind) (canon : Canon) (before after : State) (calls : List Record) (result : Option (Unit {0}))
    → Served site kind canon before calls after result
    → OnePage site kind canon before calls

-- The request and the current dispatches are the same. So is all that an exchange shows of them: its kind, its paths
-- and query, and the attributes that dispatches set.
pub record KeepsRequest (before after : Exchange) : Type 0 where
  pub method : after.method ≡ before.method
  pub context_path : after.context_path ≡ before.context_path
  pub cookie_settings : after.cookie_settings ≡ before.cookie_settings
  pub request_fields : after.request_fields ≡ before.request_fields
  pub body : after.body ≡ before.body
  pub moment : after.moment ≡ before.moment
  pub reads_chunks : after.reads_chunks ≡ before.reads_chunks
  pub client : after.client ≡ before.client
  pub dispatches : after.dispatches ≡ before.dispatches

-- A dispatch that ends restores what the exchange showed before it. Only the split of the client's own path remains
-- known.
abbrev pub DispatchesEnd : Site → Type 0
DispatchesEnd site =
    (room : ℕ) (kind : Kind) (canon : Canon) (before after : State) (calls : List Record) (finished : Finished)
    → Tree site room kind canon before calls after (Some finished)
    → KeepsRequest
    record before.exchange { client = client_in kind (paths_in site canon before.exchange) before.exchange.client }
    after.exchange

-- An include, or a dispatch within one.
abbrev pub is_included : Kind → Exchange → Bool
is_included kind exchange = is_include_kind kind || is_within_include exchange

-- An include changes neither the status nor the header fields (section 9.3).
abbrev pub IncludesKeep : Site → Type 0
IncludesKeep site =
    (room : ℕ) (kind : Kind) (canon : Canon) (before after : State) (calls : List Record) (result : Option Finished)
    → is_included kind before.exchange ≡ true
    → Tree site room kind canon before calls after result
    → (after.exchange.status ≡ before.exchange.status) × (after.exchange.fields ≡ before.exchange.fields)

abbrev pub is_error : Finished → Bool
is_error Done = false
is_error (Error status text) = true
is_error (Failed kind text) = false

-- An include never ends in an error.
abbrev pub IncludesEndInNoError : Site → Type 0
IncludesEndInNoError site =
    (room : ℕ) (kind : Kind) (canon : Canon) (before after : State) (calls : List Record) (finished : Finished)
    → is_included kind before.exchange ≡ true
    → Tree site room kind canon before calls after (Some finished)
    → is_error finished ≡ false

-- The field that goes with the status of an error, if any: the methods that a file allows, or the seconds until a
-- servlet is available again (RFC 9110, sections 10.2.1 and 10.2.3).
abbrev pub GoesWith : ℕ → Option KeptField → Type 0
GoesWith status None = Unit {0}
GoesWith status (Some field) =
    ((status ≡ METHOD_NOT_ALLOWED) × (field.name ≡ codes "allow") × (field.value ≡ codes "GET, HEAD"))
    ⊎ ((status ≡ SERVICE_UNAVAILABLE) × (field.name ≡ codes "retry-after") × ((seconds : ℕ) × (field.value ≡ decimal seconds)))

-- An error is kept with this status and text, and the name of the servlet that raised it. Its only field, if any, is
-- the one that goes with the status.
abbrev pub IsKept : Site → ℕ → List ℕ → Option KeptError → Type 0
IsKept site status text None = ⊥
IsKept site status text (Some kept) =
    (kept.status ≡ status) × (kept.text ≡ text) × ((resource : Resource) × (kept.servlet ≡ Some (name_of site resource))) × GoesWith status kept.field

abbrev pub KeepsEnding : Site → Finished → Option KeptError → Type 0
KeepsEnding site Done kept = Unit {0}
KeepsEnding site (Error status text) kept = IsKept site status text kept
KeepsEnding site (Failed kind text) kept = IsKept site INTERNAL_SERVER_ERROR text kept

-- The error that is kept is the one that ended the dispatch.
abbrev pub EndingsAreKept : Site → Type 0
EndingsAreKept site =
    (room : ℕ) (kind : Kind) (canon : Canon) (before after : State) (calls : List Record) (finished : Finished)
    → Tree site room kind canon before calls after (Some finished)
    → KeepsEnding site finished after.exchange.kept

-- A `before` or a `service` that finds these bytes in the buffer.
abbrev pub Finds : List ℕ → Record → Type 0
Finds written (OfFilter place (Entered before gate after)) = before.buffer ≡ written
Finds written (OfServlet place (Serviced before turn step after)) = before.buffer ≡ written
Finds written made = ⊥

-- The first call, if any, finds these bytes in the buffer.
abbrev pub BeginsWith : List ℕ → List Record → Type 0
BeginsWith written [] = Unit {0}
BeginsWith written (made ∷ others) = Finds written made

-- The buffer is empty when a forward begins: its first call, a `before` or a `service`, finds it empty (section 9.4).
abbrev pub ForwardsBeginEmpty : Site → Type 0
ForwardsBeginEmpty site =
    (room : ℕ) (canon : Canon) (before after : State) (calls : List Record) (result : Option Finished)
    → Tree site room kinds.Forward canon before calls after result
    → BeginsWith [] calls

-- Listeners are notified of session events when the call that caused them returns. No event is pending after a dispatch
-- (section 11.3).
abbrev pub EventsAreTold : Site → Type 0
EventsAreTold site =
    (room : ℕ) (kind : Kind) (canon : Canon) (before after : State) (calls : List Record) (result : Option Finished)
    → before.exchange.events ≡ []
    → Tree site room kind canon before calls after result
    → after.exchange.events ≡ []

abbrev pub is_of_listener : Record → Bool
is_of_listener (OfListener place event) = true
is_of_listener (OfFilter place call) = false
is_of_listener (OfServlet place call) = false

-- The events that a call leaves pending.
abbrev pub left_events : Record → List Event
left_events (OfFilter place (Entered before gate after)) = after.events
left_events (OfFilter place (Left before done after)) = after.events
left_events (OfServlet place (Serviced before turn step after)) = after.events
left_events made = []

-- A call and the notifications that follow it.
abbrev pub told_behind : Site → Record → List Record
told_behind site made = made ∷ all_told site.listeners (left_events made)

-- Each call of a filter or servlet is directly followed by the notifications of its events. Listeners receive no
-- others.
abbrev pub TellingsFollow : Site → Type 0
TellingsFollow site =
    (room : ℕ) (kind : Kind) (canon : Canon) (before after : State) (calls : List Record) (result : Option Finished)
    → Tree site room kind canon before calls after result
    → calls ≡ flat_map (told_behind site) (filter (λ made. not (is_of_listener made)) calls)

-- Dispatches, and responses with their error pages, move the sessions only as components may.
abbrev pub AnswersMoveSessions : Site → Type 0
AnswersMoveSessions site =
    ((room : ℕ) (kind : Kind) (canon : Canon) → MovesSessions (Tree site room kind canon))
    × ((kind : Kind) (canon : Canon) → MovesSessions (Served site kind canon))
    × ((status : ℕ) (page : Option Canon) → MovesSessions (ShowsError site status page))

-- So do the steps of the container itself.
abbrev pub StepsMoveSessions : Type 0
StepsMoveSessions =
    MovesSessions {A = Unit {0}} (gives tt)
    × ((change : Change) → MovesSessions (makes change))
    × ((listeners : ℕ) (event : Event) → MovesSessions (hears listeners event))

-- So do steps in sequence.
abbrev pub MovesJoin : Type 0
MovesJoin = (before between after : Exchange) → IsMoved before between → IsMoved between after → IsMoved before after

-- Moving the sessions in this way makes no session expired and gives no session a caller that it did not have.
abbrev pub MovedLeaveNoneExpired : Type 0
MovedLeaveNoneExpired = (before after : Exchange) → IsMoved before after
    → HasNoneExpired before.moment before.store → HasNoneExpired after.moment after.store

abbrev pub MovedGiveNoCaller : Type 0
MovedGiveNoCaller = (before after : Exchange) → IsMoved before after
    → (number caller : ℕ) → HoldsCaller number caller after.store → HoldsCaller number caller before.store

abbrev pub MovedFindNoCaller : Type 0
MovedFindNoCaller = (before after : Exchange) → IsMoved before after → IsOrderly before.store
    → IsOrderly after.store
    × ((number caller : ℕ) → caller_of number after.store ≡ Some caller → caller_of number before.store ≡ Some caller)
