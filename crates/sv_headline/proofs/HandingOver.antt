-- Requests that are handed over to an application.
use Rattle.std.proofs.Common.{◌≡◌, ◌≢◌, ◌<◌, ℕ, Bool, true, false, inl, inr, List, [], ◌∷◌, ◌++◌, length, get_or, map, Option, None, Some, refl, ap, ◌∙◌, subst, arith}
use Rattle.std.proofs.lemmas.Bool.Decides.{eqb_tells}
use Rattle.std.proofs.lemmas.Bool.{cond-true}
use Rattle.std.proofs.lemmas.Option.{slice_get-get_or, slice_get_within}
use Rattle.std.specs.Prelude.{◌==◌, if◌then◌else◌, option_and_then, slice_get}
use Rattle.std.specs.Option.{option_map}
use Rattle.sv_admission.specs.Held.{caller_held}
use Rattle.sv_application.specs.HandingOver.{Makes, all_fields, caller_names, handed_request}
use Rattle.sv_application.specs.Serving.{IsError, Serves, ServesRequest, Steps}
use Rattle.sv_application.specs.declared.handing_over.HandedOver.{HandedOver}
use Rattle.sv_component.specs.Call.{Call, Serviced}
use Rattle.sv_component.specs.Laws.{RunsMoveComponents}
use Rattle.sv_component.specs.Motion.{Moved, calls_at, servlet_calls}
use Rattle.sv_component.specs.Runs.{IsRun, OfFilter, OfListener, OfServlet, Record}
use Rattle.sv_component.specs.Steps.{ComponentSteps}
use Rattle.sv_component.specs.declared.answers.Step.{Step}
use Rattle.sv_component.specs.declared.components.Named.{Named}
use Rattle.sv_context.specs.Conduct.{unnoted}
use Rattle.sv_context.specs.State.{ContextState, world_of}
use Rattle.sv_exchange.specs.Dispatches.{kind_of}
use Rattle.sv_exchange.specs.State as exchanges
use Rattle.sv_exchange.specs.declared.session_queries.HeldSession.{HeldSession}
use Rattle.sv_headline.specs.HandedOver.{EntriesAreHandedOver, IsApplicationAt, OtherDispatchesHandNothingOver, StepAsApplications, own_request}
use Rattle.sv_headline.specs.Message.{IsLawfulMessage, session_in, settled_for}
use Rattle.sv_headline.specs.Unlawful.{EntriesCallTheirServlet, first_exchange, site}
use Rattle.sv_listeners.specs.Telling.{hearing_order, told}
use Rattle.sv_login.specs.declared.outcome.Outcome.TheVariants.{Entered}
use Rattle.sv_mapping.specs.declared.kind.Kind.{Kind}
use Rattle.sv_mapping.specs.declared.kind.Kind.TheVariants as kinds
use Rattle.sv_realm.specs.declared.account.User.{User}
use Rattle.sv_realm.specs.declared.caller.Caller.{Caller}
use Rattle.sv_run.specs.Contexts.{Handling}
use Rattle.sv_session.specs.Store.{Store}
use Rattle.sv_session.specs.declared.event.Event.{Event}
use Rattle.sv_session.specs.declared.event.Event.TheVariants.{RequestInitialized}

-- ---- the calls of a servlet among all calls

servlets_split : (front behind : List Record) → servlet_calls (front ++ behind) ≡ servlet_calls front ++ servlet_calls behind
servlets_split [] behind = refl
servlets_split (OfServlet place call ∷ front) behind = ap (λ calls. (place, call) ∷ calls) (servlets_split front behind)
servlets_split (OfFilter place call ∷ front) behind = servlets_split front behind
servlets_split (OfListener place event ∷ front) behind = servlets_split front behind

if_split : (is : Bool) (call : Call) (all front behind : List Call) → all ≡ front ++ behind
    → (if is then call ∷ all else all) ≡ (if is then call ∷ front else front) ++ behind
if_split true call all front behind same = ap (λ calls. call ∷ calls) same
if_split false call all front behind same = same

at_split : (place : ℕ) (front behind : List (ℕ × Call)) → calls_at place (front ++ behind) ≡ calls_at place front ++ calls_at place behind
at_split place [] behind = refl
at_split place (made ∷ front) behind =
    if_split (made.0 == place) made.1 (calls_at place (front ++ behind)) (calls_at place front) (calls_at place behind) (at_split place front behind)

own_call : (place : ℕ) (call : Call) (behind : List (ℕ × Call)) → calls_at place ((place, call) ∷ behind) ≡ call ∷ calls_at place behind
own_call place call behind = elim (eqb_tells place place) [
  | inl here ↦ cond-true (place == place) _ _ here.0
  | inr elsewhere ↦ absurd (elsewhere.1 refl)
]

-- the calls of the servlet at the place, of which this is one
its_calls : (place : ℕ) (call : Call) (front behind : List Record)
    → calls_at place (servlet_calls (front ++ OfServlet place call ∷ behind))
    ≡ calls_at place (servlet_calls front) ++ call ∷ calls_at place (servlet_calls behind)
its_calls place call front behind =
    ap (calls_at place) (servlets_split front (OfServlet place call ∷ behind))
    ∙ at_split place (servlet_calls front) ((place, call) ∷ servlet_calls behind)
    ∙ ap (λ calls. calls_at place (servlet_calls front) ++ calls) (own_call place call (servlet_calls behind))

no_servlets : (event : Event) (places : List ℕ) → servlet_calls (map (λ place. OfListener place event) places) ≡ []
no_servlets event [] = refl
no_servlets event (place ∷ places) = no_servlets event places

told_no_servlet : (event : Event) (count : ℕ) → servlet_calls (told event count) ≡ []
unfolding told
told_no_servlet event count = no_servlets event (hearing_order event count)

-- ---- the steps of an application

module _ {S F L : Type 0} (moving : ComponentSteps S F L) (location_of : S → Option (List ℕ)) (steps : StepAsApplications moving location_of) where
  first_step : (old new : S) (internal : List ℕ) (call : Call) (behind : List Call) → location_of old ≡ Some internal
      → Moved moving.servlet old (call ∷ behind) new → (later : List ℕ) × Steps internal call later
  unfolding Moved
  first_step old new internal call behind is moved = let one = steps old moved.0 call internal is moved.1 in (one.0, one.2)

  some_step : (old new : S) (internal : List ℕ) (front : List Call) (call : Call) (behind : List Call) → location_of old ≡ Some internal
      → Moved moving.servlet old (front ++ call ∷ behind) new → (its : List ℕ) × (later : List ℕ) × Steps its call later
  unfolding Moved
  some_step old new internal [] call behind is moved =
      let one = steps old moved.0 call internal is moved.1 in (internal, one.0, one.2)
  some_step old new internal (first ∷ front) call behind is moved =
      let one = steps old moved.0 first internal is moved.1 in
      some_step moved.0 new one.0 front call behind one.1 moved.2

other_kind : (kind : Kind) (internal : List ℕ) (exchange left : exchanges.State) (step : Step) → kind ≢ kinds.Request
    → Serves kind internal exchange step left → IsError 404 step × (left ≡ exchange)
other_kind kinds.Request internal exchange left step apart serves = absurd (apart refl)
other_kind kinds.Forward internal exchange left step apart serves = serves
other_kind kinds.Include internal exchange left step apart serves = serves
other_kind kinds.Error internal exchange left step apart serves = serves

-- ---- the request that is handed over

pub its_caller : (users : List User) (renewed : Bool) (session : Option ℕ) (store : Store)
    → option_and_then (λ (held : HeldSession). held.caller)
    (option_map (λ number. record { number = number; is_renewed = renewed; caller = caller_held users (Some number) store }) session)
    ≡ caller_held users session store
its_caller users renewed None store = refl
its_caller users renewed (Some number) store = refl

module _ {S F L : Type 0} (moving : ComponentSteps S F L) where
  pub ran : (handling : Handling (ContextState S F L)) (made : List Record) → IsLawfulMessage moving handling made
      → IsRun moving (world_of handling.context unnoted) made (world_of handling.after unnoted)
  ran handling made (inl enters) = enters.1.moves
  ran handling made (inr out) = out.1.done.moves

  -- the servlet at a place takes the steps of its calls
  moved_at : RunsMoveComponents moving → (handling : Handling (ContextState S F L)) (made : List Record) (place : ℕ) (servlet : Named S)
      → IsLawfulMessage moving handling made → slice_get handling.context.servlets place ≡ Some servlet
      → (later : Named S) × Moved moving.servlet servlet.component (calls_at place (servlet_calls made)) later.component
  moved_at runs_move handling made place servlet lawful is =
      let moved = runs_move (world_of handling.context unnoted) (world_of handling.after unnoted) made (ran handling made lawful) in
      let within : place < length handling.context.servlets = slice_get_within handling.context.servlets place servlet is in
      let later : Named S = get_or handling.after.servlets place servlet in
      let there : slice_get handling.after.servlets place ≡ Some later =
      slice_get-get_or handling.after.servlets place servlet (omega (arith, within, moved.counts.servlets)) in
      (later, (moved.servlets place servlet later is there).0)

  -- the servlet at a place takes the step of each of its calls
  pub its_step : RunsMoveComponents moving → (location_of : S → Option (List ℕ)) → StepAsApplications moving location_of
      → (handling : Handling (ContextState S F L)) (place : ℕ) (internal : List ℕ) (front behind : List Record) (call : Call)
      → IsApplicationAt moving location_of handling.context place internal → IsLawfulMessage moving handling (front ++ OfServlet place call ∷ behind)
      → (its : List ℕ) × (later : List ℕ) × Steps its call later
  its_step runs_move location_of steps handling place internal front behind call at lawful =
      let moved = moved_at runs_move handling (front ++ OfServlet place call ∷ behind) place at.0 lawful at.1 in
      some_step moving location_of steps at.0.component moved.0.component internal (calls_at place (servlet_calls front)) call (calls_at place (servlet_calls behind)) at.2
      (subst (λ its. Moved moving.servlet at.0.component its moved.0.component) (its_calls place call front behind) moved.1)

  own : (handling : Handling (ContextState S F L)) (made : List Record) → handed_request (first_exchange moving handling made) ≡ own_request moving handling made
  own handling made =
      let own_one = own_request moving handling made in
      ap (λ (caller : Option Caller). record { target = own_one.target; caller = caller_names caller; cookies = own_one.cookies })
      (its_caller handling.context.users false (session_in handling.context handling.request) (settled_for handling.context handling.request Entered).store)

  pub entries_are_handed_over : RunsMoveComponents moving → EntriesCallTheirServlet moving → EntriesAreHandedOver moving
  entries_are_handed_over runs_move call_servlet location_of handling made place internal steps at goes lawful =
      let first = first_exchange moving handling made in
      let called = call_servlet handling made place goes lawful in
      let call = Serviced first 0 called.step called.left in
      let count = (site moving handling made).listeners in
      let moved = moved_at runs_move handling made place at.0 lawful at.1 in
      let calls : calls_at place (servlet_calls made) ≡ call ∷ calls_at place (servlet_calls called.behind) =
      ap (λ records. calls_at place (servlet_calls records)) called.calls
      ∙ its_calls place call (told RequestInitialized count) called.behind
      ∙ ap (λ before. calls_at place before ++ call ∷ calls_at place (servlet_calls called.behind)) (told_no_servlet RequestInitialized count) in
      let stepped = first_step moving location_of steps at.0.component moved.0.component internal call (calls_at place (servlet_calls called.behind)) at.2
      (subst (λ its. Moved moving.servlet at.0.component its moved.0.component) calls moved.1) in
      let hands : ServesRequest internal first called.step called.left = stepped.1.1 in
      record {
        step = called.step;
        left = called.left;
        behind = called.behind;
        calls = called.calls;
        done = hands.0;
        is_step = hands.1;
        makes = subst (λ (request : HandedOver). Makes (all_fields request internal) first hands.0 called.left) (own handling made) hands.2;
      }

  pub other_dispatches_hand_nothing_over : RunsMoveComponents moving → OtherDispatchesHandNothingOver moving
  other_dispatches_hand_nothing_over runs_move location_of handling place internal front behind exchange left turn step steps at lawful apart =
      let stepped = its_step runs_move location_of steps handling place internal front behind (Serviced exchange turn step left) at lawful in
      other_kind (kind_of exchange) stepped.0 exchange left step apart stepped.2.1
