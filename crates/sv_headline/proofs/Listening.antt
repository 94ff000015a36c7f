-- Listeners of our contexts are notified exactly of the events of their lives.
use Rattle.std.proofs.Common.{◌≡◌, ℕ, Bool, true, false, not, inl, inr, List, [], ◌∷◌, ◌++◌, map, Option, None, Some, refl, sym, ap, ◌∙◌, subst, append-nil, append_assoc}
use Rattle.std.specs.List.{flat_map}
use Rattle.std.specs.Option.{option_to_list}
use Rattle.std.specs.Prelude.{codes}
use Rattle.std.proofs.lemmas.List.Concat.{flat_map-append}
use Rattle.std.proofs.lemmas.List.Elements.{filter-append}
use Rattle.sv_admission.specs.declared.answer.Answer.{Answer as Reply}
use Rattle.sv_admission.specs.declared.answer.Answer.TheVariants as replies
use Rattle.sv_admission.specs.declared.answer.TheConstants.{SEE_OTHER}
use Rattle.sv_component.specs.Runs.{OfFilter, OfListener, OfServlet, Record}
use Rattle.sv_context.specs.Answered.{Answered, Answers, Requested, SendsTo, Tells}
use Rattle.sv_exchange.specs.Changing.{SetHeader, SetStatus, Write}
use Rattle.sv_headline.proofs.Calling.{then_of}
use Rattle.sv_headline.specs.Listeners.{component_calls, events_within, notifications, within_request}
use Rattle.sv_headline.specs.Refused.{is_dispatch}
use Rattle.sv_lifecycle.specs.Calls.{inited}
use Rattle.sv_lifecycle.specs.declared.begin.Answered.{Answered as Initialized}
use Rattle.sv_listeners.specs.Telling.{hearing_order, told}
use Rattle.sv_live.specs.Calls.{destroyed}
use Rattle.sv_live.specs.SessionEnds as ends
use Rattle.sv_journal.specs.declared.calls.Place.{Place}
use Rattle.sv_journal.specs.declared.calls.Place.TheVariants.{Filter, Servlet}
use Rattle.sv_descriptor.specs.declared.web_app.WebApp.{WebApp}
use Rattle.sv_mapping.specs.declared.kind.Kind.{Kind}
use Rattle.sv_mapping.specs.declared.kind.Kind.TheVariants as kinds
use Rattle.sv_session.specs.declared.event.Event.{Event}
use Rattle.sv_session.specs.declared.event.Event.TheVariants.{RequestDestroyed, RequestInitialized}
use Rattle.sv_tree.proofs.Doing.{chosen_then, wants_then}
use Rattle.sv_tree.proofs.Following.{tellings_follow}
use Rattle.sv_tree.proofs.Silence.{Silent, gives_silent, makes_silent, then_silent}
use Rattle.sv_tree.specs.Does.{Does, ◌>>=◌, ◌>>◌, becomes, gives, makes, wants_memory}
use Rattle.sv_tree.specs.Endings.{keeps}
use Rattle.sv_tree.specs.Laws.{is_of_listener, left_events, told_behind}
use Rattle.sv_tree.specs.Served as served
use Rattle.sv_tree.specs.Served.{kept_field, plain_text, reset}
use Rattle.sv_tree.specs.Site.{Site}
use Rattle.sv_tree.specs.State.{KeptError, KeptField, State, on_exchange}
use Rattle.sv_tree.specs.Telling.{all_told, hears}
use Rattle.sv_tree.specs.Tree.{Tree}
use Rattle.sv_tree.specs.declared.finished.Finished.{Finished}
use Rattle.sv_tree.specs.declared.finished.Finished.TheVariants.{Done, Error, Failed}
use Rattle.sv_tree.specs.declared.limits.TheConstants.{INTERNAL_SERVER_ERROR, MAX_NESTING}
use Rattle.sv_message.specs.Phrases.{phrase_of}
use Rattle.sv_uri.specs.declared.path.Canon.{Canon}

-- ---- notifications among calls

heard_alone : (event : Event) (places : List ℕ) → notifications (map (λ place. OfListener place event) places) ≡ map (λ place. OfListener place event) places
heard_alone event [] = refl
heard_alone event (place ∷ places) = ap (λ rest. OfListener place event ∷ rest) (heard_alone event places)

uncalled : (event : Event) (places : List ℕ) → component_calls (map (λ place. OfListener place event) places) ≡ []
uncalled event [] = refl
uncalled event (place ∷ places) = uncalled event places

pub told_heard : (event : Event) (listeners : ℕ) → notifications (told event listeners) ≡ told event listeners
unfolding told
told_heard event listeners = heard_alone event (hearing_order event listeners)

told_uncalled : (event : Event) (listeners : ℕ) → component_calls (told event listeners) ≡ []
unfolding told
told_uncalled event listeners = uncalled event (hearing_order event listeners)

pub all_heard : (listeners : ℕ) (events : List Event) → notifications (all_told listeners events) ≡ all_told listeners events
all_heard listeners [] = refl
all_heard listeners (event ∷ events) =
    filter-append is_of_listener (told event listeners) (all_told listeners events)
    ∙ (λ i. told_heard event listeners i ++ all_heard listeners events i)

all_uncalled : (listeners : ℕ) (events : List Event) → component_calls (all_told listeners events) ≡ []
all_uncalled listeners [] = refl
all_uncalled listeners (event ∷ events) =
    filter-append (λ call. not (is_of_listener call)) (told event listeners) (all_told listeners events)
    ∙ (λ i. told_uncalled event listeners i ++ all_uncalled listeners events i)

-- events that are notified one list after another
pub all_joined : (listeners : ℕ) (front back : List Event) → all_told listeners (front ++ back) ≡ all_told listeners front ++ all_told listeners back
all_joined listeners front back = flat_map-append (λ event. told event listeners) front back

pub one_told : (listeners : ℕ) (event : Event) → all_told listeners (event ∷ []) ≡ told event listeners
one_told listeners event = append-nil (told event listeners)

-- the ends of sessions
pub ends_joined : {X : Type 0} (listeners : ℕ) (events : X → List Event) (xs : List X)
    → flat_map (λ x. ends.all_told (events x) listeners) xs ≡ all_told listeners (flat_map events xs)
ends_joined listeners events [] = refl
ends_joined listeners events (x ∷ xs) =
    ap (λ rest. all_told listeners (events x) ++ rest) (ends_joined listeners events xs) ∙ sym (all_joined listeners (events x) (flat_map events xs))

-- ---- calls that are followed by their notifications

abbrev Follows : Site → List Record → Type 0
Follows site calls = calls ≡ flat_map (told_behind site) (component_calls calls)

follows_then : (site : Site) (front back : List Record) → Follows site front → Follows site back → Follows site (front ++ back)
follows_then site front back one two =
    ap (λ its. its ++ back) one ∙ ap (λ its. flat_map (told_behind site) (component_calls front) ++ its) two
    ∙ sym (ap (flat_map (told_behind site)) (filter-append (λ call. not (is_of_listener call)) front back)
    ∙ flat_map-append (told_behind site) (component_calls front) (component_calls back))

abbrev Told : {A : Type 0} → Site → Does A → Type 0
Told {A} site does = (x y : State) (r : List Record) (result : Option A) → does x r y result → Follows site r

silent_told : {A : Type 0} (site : Site) (does : Does A) → Silent does → Told site does
silent_told site does silent x y r result done = subst (Follows site) (sym (silent x y r result done)) refl

then_told : {A B : Type 0} (site : Site) (first : Does A) (next : A → Does B) → Told site first → ((value : A) → Told site (next value))
    → Told site (first >>= next)
then_told site first next one two x y r result (inl both) =
    subst (Follows site) (sym both.is_joined)
    (follows_then site both.front both.back (one x both.between both.front (Some both.given) both.begins)
    (two both.given both.between y both.back result both.goes_on))
then_told site first next one two x y r result (inr stopped) = one x y r None stopped.0

module _ (site : Site) where
  tree_told : (kind : Kind) (canon : Canon) → Told site (Tree site MAX_NESTING kind canon)
  tree_told kind canon x y r result done = tellings_follow site MAX_NESTING kind canon x y r result done

  sets_silent : (field : Option KeptField) → Silent (served.sets field)
  sets_silent None = gives_silent tt
  sets_silent (Some field) = makes_silent (SetHeader field.name field.value)

  resets_silent : (status : ℕ) (field : Option KeptField) → Silent (served.Resets status field)
  resets_silent status field =
      then_silent (becomes (on_exchange reset)) (λ _. makes (SetStatus status) >> served.sets field) (λ x y r result done. done.0)
      (λ _. then_silent (makes (SetStatus status)) (λ _. served.sets field) (makes_silent (SetStatus status)) (λ _. sets_silent field))

  plain_silent : (status : ℕ) (field : Option KeptField) → Silent (served.Plain status field)
  plain_silent status field =
      let typed = SetHeader (codes "content-type") (codes "text/plain") in
      let written = Write (plain_text status) in
      then_silent (served.Resets status field) (λ _. makes typed >> makes written) (resets_silent status field)
      (λ _. then_silent (makes typed) (λ _. makes written) (makes_silent typed) (λ _. makes_silent written))

  unless_told : (next : Does (Unit {0})) → Told site next → Told site (served.unless_committed next)
  unless_told next told_so x y r result done =
      chosen_then x.exchange.committed served.breaks next x y r result
      (λ _ broken. subst (Follows site) (sym broken.0) refl) (λ _ went. told_so x y r result went) done

  shown_told : (status : ℕ) (field : Option KeptField) (finished : Finished) → Told site (served.Shown status field finished)
  shown_told status field Done = silent_told site (gives tt) (gives_silent tt)
  shown_told status field (Error other text) = unless_told (served.Plain status field) (silent_told site (served.Plain status field) (plain_silent status field))
  shown_told status field (Failed kind text) = unless_told (served.Plain status field) (silent_told site (served.Plain status field) (plain_silent status field))

  pages_told : (status : ℕ) (field : Option KeptField) (page : Option Canon) → Told site (served.Pages site status field page)
  pages_told status field None = silent_told site (served.Plain status field) (plain_silent status field)
  pages_told status field (Some page) =
      let dispatch = Tree site MAX_NESTING kinds.Error page in
      then_told site (served.Resets status field) (λ _. dispatch >>= served.Shown status field)
      (silent_told site (served.Resets status field) (resets_silent status field))
      (λ _. then_told site dispatch (served.Shown status field) (tree_told kinds.Error page) (λ finished. shown_told status field finished))

  shows_told : (status : ℕ) (kind : Option (List ℕ)) → Told site (served.Shows site status kind)
  shows_told status kind =
      let pages = (λ (state : State). served.Pages site status (kept_field state.exchange.kept) (site.page status kind) state) in
      unless_told (wants_memory >> pages) (λ x y r result done. elim (wants_then (λ _. pages) x y r result done) [
        | inl shown ↦ pages_told status (kept_field x.exchange.kept) (site.page status kind) x y r result shown
        | inr none ↦ subst (Follows site) (sym none.0) refl
      ])

  settled_told : (finished : Finished) → Told site (served.Settled site finished)
  settled_told Done = silent_told site (gives tt) (gives_silent tt)
  settled_told (Error status text) = shows_told status None
  settled_told (Failed kind text) = shows_told INTERNAL_SERVER_ERROR (Some kind)

  served_told : (kind : Kind) (canon : Canon) → Told site (served.Served site kind canon)
  served_told kind canon =
      then_told site (Tree site MAX_NESTING kind canon) (served.Settled site) (tree_told kind canon) (λ finished. settled_told finished)

  error_told : (status : ℕ) (page : Option Canon) → Told site (served.ShowsError site status page)
  error_told status page =
      let kept : KeptError = record { status = status; text = phrase_of status; servlet = None; field = None } in
      then_told site (keeps kept) (λ _. served.unless_committed (served.Pages site status None page))
      (λ x y r result done. subst (Follows site) (sym done.0) refl)
      (λ _. unless_told (served.Pages site status None page) (pages_told status None page))

  -- ---- the calls of a message

  -- what is called within a request, and whether it is a dispatch
  record CallsWithin (dispatched : Bool) (made : List Record) : Type 0 where
    pub calls : List Record
    pub follows : Follows site calls
    pub are : made ≡ within_request dispatched site.listeners calls

  requested_within : (dispatches : Does (Unit {0})) → Told site dispatches → (x y : State) (r : List Record) → Requested site dispatches x r y (Some tt)
      → CallsWithin true r
  requested_within dispatches told_so x y r done =
      let ends = λ (given : Unit {0}). hears site.listeners RequestDestroyed in
      let hearing = then_of (hears site.listeners RequestInitialized) (λ _. dispatches >> hears site.listeners RequestDestroyed) x y r tt done in
      let serving = then_of dispatches ends hearing.between y hearing.back tt hearing.goes_on in
      record {
        calls = serving.front;
        follows = told_so hearing.between serving.between serving.front (Some serving.given) serving.begins;
        are =
            hearing.is_joined
            ∙ ap (λ front. front ++ hearing.back) hearing.begins.0
            ∙ ap (λ back. told RequestInitialized site.listeners ++ back)
            (serving.is_joined ∙ ap (λ back. serving.front ++ back) serving.goes_on.0)
            ∙ sym (append_assoc (told RequestInitialized site.listeners) serving.front (told RequestDestroyed site.listeners));
      }

  answers_within : (canon : Canon) (reply : Reply) (x y : State) (r : List Record) → Answers site canon reply x r y (Some tt)
      → CallsWithin (is_dispatch reply) r
  answers_within canon replies.Entered x y r done =
      requested_within (served.Served site kinds.Request canon) (served_told kinds.Request canon) x y r done
  answers_within canon (replies.Page page) x y r done =
      requested_within (served.Served site kinds.Forward page) (served_told kinds.Forward page) x y r done
  answers_within canon (replies.Error status None) x y r done =
      record { calls = r; follows = error_told status None x y r (Some tt) done; are = refl }
  answers_within canon (replies.Error status (Some page)) x y r done =
      requested_within (served.ShowsError site status (Some page)) (error_told status (Some page)) x y r done
  answers_within canon (replies.SeeOther location) x y r done =
      let named = SetHeader (codes "location") location in
      let sends = then_silent (makes (SetStatus SEE_OTHER)) (λ _. makes named) (makes_silent (SetStatus SEE_OTHER)) (λ _. makes_silent named) in
      record { calls = r; follows = silent_told site (SendsTo location) sends x y r (Some tt) done; are = refl }

  tells_of : (event : Option Event) (x y : State) (r : List Record) (given : Unit {0}) → Tells site event x r y (Some given)
      → r ≡ all_told site.listeners (option_to_list event)
  tells_of None x y r given tells = tells.0
  tells_of (Some event) x y r given tells = tells.0 ∙ sym (one_told site.listeners event)

  within_calls : (dispatched : Bool) (calls : List Record) → component_calls (within_request dispatched site.listeners calls) ≡ component_calls calls
  within_calls false calls = refl
  within_calls true calls =
      filter-append (λ call. not (is_of_listener call)) (told RequestInitialized site.listeners ++ calls) (told RequestDestroyed site.listeners)
      ∙ (λ i. filter-append (λ call. not (is_of_listener call)) (told RequestInitialized site.listeners) calls i ++ told_uncalled RequestDestroyed site.listeners i)
      ∙ append-nil (component_calls (told RequestInitialized site.listeners) ++ component_calls calls)
      ∙ ap (λ none. none ++ component_calls calls) (told_uncalled RequestInitialized site.listeners)

  -- the calls of a message in their order
  pub answered_in_order : (canon : Canon) (event : Option Event) (reply : Reply) (x y : State) (r : List Record) → Answered site canon event reply x r y (Some tt)
      → r ≡ all_told site.listeners (option_to_list event) ++ within_request (is_dispatch reply) site.listeners (flat_map (told_behind site) (component_calls r))
  answered_in_order canon event reply x y r done =
      let both = then_of (Tells site event) (λ _. Answers site canon reply) x y r tt done in
      let within = answers_within canon reply both.between y both.back both.goes_on in
      let whole : r ≡ all_told site.listeners (option_to_list event) ++ within_request (is_dispatch reply) site.listeners within.calls =
      both.is_joined ∙ (λ i. tells_of event x both.between both.front both.given both.begins i ++ within.are i) in
      let calls : component_calls r ≡ component_calls within.calls =
      ap component_calls whole
      ∙ filter-append (λ call. not (is_of_listener call)) (all_told site.listeners (option_to_list event)) (within_request (is_dispatch reply) site.listeners within.calls)
      ∙ (λ i. all_uncalled site.listeners (option_to_list event) i ++ within_calls (is_dispatch reply) within.calls i) in
      whole
      ∙ ap (λ its. all_told site.listeners (option_to_list event) ++ within_request (is_dispatch reply) site.listeners its)
      (within.follows ∙ ap (flat_map (told_behind site)) (sym calls))

  -- ---- the notifications of a message

  one_heard : (made : Record) (calls : List Record) → notifications (made ∷ all_told site.listeners (left_events made)) ≡ notifications (all_told site.listeners (left_events made))
      → notifications (flat_map (told_behind site) (component_calls calls)) ≡ all_told site.listeners (flat_map left_events calls)
      → notifications (told_behind site made ++ flat_map (told_behind site) (component_calls calls)) ≡ all_told site.listeners (left_events made ++ flat_map left_events calls)
  one_heard made calls is rest =
      filter-append is_of_listener (told_behind site made) (flat_map (told_behind site) (component_calls calls))
      ∙ (λ i. (is ∙ all_heard site.listeners (left_events made)) i ++ rest i)
      ∙ sym (all_joined site.listeners (left_events made) (flat_map left_events calls))

  behind_heard : (calls : List Record) → notifications (flat_map (told_behind site) (component_calls calls)) ≡ all_told site.listeners (flat_map left_events calls)
  behind_heard [] = refl
  behind_heard (OfListener place event ∷ calls) = behind_heard calls
  behind_heard (OfServlet place call ∷ calls) = one_heard (OfServlet place call) calls refl (behind_heard calls)
  behind_heard (OfFilter place call ∷ calls) = one_heard (OfFilter place call) calls refl (behind_heard calls)

  within_heard : (dispatched : Bool) (calls : List Record) (events : List Event) → notifications calls ≡ all_told site.listeners events
      → notifications (within_request dispatched site.listeners calls) ≡ all_told site.listeners (events_within dispatched events)
  within_heard false calls events are = are
  within_heard true calls events are =
      filter-append is_of_listener (told RequestInitialized site.listeners ++ calls) (told RequestDestroyed site.listeners)
      ∙ (λ i. filter-append is_of_listener (told RequestInitialized site.listeners) calls i ++ told_heard RequestDestroyed site.listeners i)
      ∙ (λ i. (told_heard RequestInitialized site.listeners i ++ are i) ++ told RequestDestroyed site.listeners)
      ∙ append_assoc (told RequestInitialized site.listeners) (all_told site.listeners events) (told RequestDestroyed site.listeners)
      ∙ ap (λ rest. told RequestInitialized site.listeners ++ rest)
      (ap (λ its. all_told site.listeners events ++ its) (sym (one_told site.listeners RequestDestroyed))
      ∙ sym (all_joined site.listeners events (RequestDestroyed ∷ [])))

  pub in_order_heard : (events : List Event) (dispatched : Bool) (made : List Record)
      → made ≡ all_told site.listeners events ++ within_request dispatched site.listeners (flat_map (told_behind site) (component_calls made))
      → notifications made ≡ all_told site.listeners (events ++ events_within dispatched (flat_map left_events made))
  in_order_heard events dispatched made are =
      ap notifications are
      ∙ filter-append is_of_listener (all_told site.listeners events) (within_request dispatched site.listeners (flat_map (told_behind site) (component_calls made)))
      ∙ (λ i. all_heard site.listeners events i ++ within_heard dispatched (flat_map (told_behind site) (component_calls made)) (flat_map left_events made) (behind_heard made) i)
      ∙ sym (all_joined site.listeners events (events_within dispatched (flat_map left_events made)))

-- ---- starts and stops

pub inits_unheard : (app : WebApp) (begun : List Initialized) → notifications (map (inited app) begun) ≡ []
inits_unheard app [] = refl
inits_unheard app (one ∷ begun) = by_place one.place refl (inits_unheard app begun)
  where
    by_place : (place : Place) → one.place ≡ place → notifications (map (inited app) begun) ≡ [] → notifications (inited app one ∷ map (inited app) begun) ≡ []
    by_place (Servlet place) is rest = rw is rest
    by_place (Filter place) is rest = rw is rest

pub destroys_unheard : (places : List Place) → notifications (map destroyed places) ≡ []
destroys_unheard [] = refl
destroys_unheard (Servlet place ∷ places) = destroys_unheard places
destroys_unheard (Filter place ∷ places) = destroys_unheard places
