-- An answer without a dispatch calls no servlet and no filter.
use Rattle.std.proofs.Common.{◌≡◌, ℕ, true, false, inl, inr, List, [], ◌∷◌, ◌++◌, length, Option, None, Some, refl, sym, ap, ◌∙◌, subst, append-nil}
use Rattle.std.specs.Prelude.{codes}
use Rattle.std.specs.List.{AllByRecursion}
use Rattle.sv_exchange.specs.Asked.{Asked}
use Rattle.sv_admission.specs.declared.answer.Answer.{Answer}
use Rattle.sv_admission.specs.declared.answer.Answer.TheVariants as answers
use Rattle.sv_admission.specs.declared.answer.TheConstants.{SEE_OTHER}
use Rattle.sv_component.proofs.Running.{runs_grown}
use Rattle.sv_component.specs.Runs.{IsRun, OfFilter, OfListener, OfServlet, Record}
use Rattle.sv_component.specs.World.{World}
use Rattle.sv_component.specs.Steps.{ComponentSteps}
use Rattle.sv_headline.specs.Refused.{TheUndispatchedCallNone, is_dispatch, is_dispatched, servlets_and_filters}
use Rattle.sv_context.specs.Answered.{Answered, Answers, SendsTo, Tells}
use Rattle.sv_context.specs.Conduct.{asked_of}
use Rattle.sv_context.specs.Expiry.{Expires, ends_told}
use Rattle.sv_context.specs.Handled.{CutShort, IsAnswered, admitted, exchange_begun, state_in}
use Rattle.sv_context.specs.State.{ContextState, world_of}
use Rattle.sv_context.specs.Theory.{theory}
use Rattle.sv_exchange.specs.Changing.{SetHeader, SetStatus, Write}
use Rattle.sv_exchange.specs.State as exchanges
use Rattle.sv_journal.specs.Journal.{JournalState, new_journal, with_entry}
use Rattle.sv_session.specs.declared.event.Event.{Event}
use Rattle.sv_live.specs.SessionEnds.{end_events}
use Rattle.sv_listeners.specs.Telling.{told}
use Rattle.sv_run.proofs.Breaking.{event_same}
use Rattle.sv_run.specs.Effect.{whole}
use Rattle.sv_session.specs.declared.ended_sessions.EndedSession.{EndedSession}
use Rattle.sv_tree.specs.SiteOfDescriptor.{site_of}
use Rattle.sv_tree.proofs.Doing.{chosen_then}
use Rattle.sv_tree.proofs.Hearing.{all_keep, all_keep_alone}
use Rattle.sv_tree.proofs.Silence.{Silent, gives_silent, makes_silent, then_silent}
use Rattle.sv_tree.specs.Does.{Does, ◌>>◌, becomes, makes}
use Rattle.sv_tree.specs.Endings.{keeps}
use Rattle.sv_tree.specs.Laws.{is_of_listener}
use Rattle.sv_tree.specs.Served.{Plain, Resets, ShowsError, breaks, plain_text, reset, sets, unless_committed}
use Rattle.sv_tree.specs.Site.{Site}
use Rattle.sv_tree.specs.State.{KeptError, State, on_exchange}
use Rattle.sv_tree.specs.Telling.{all_told}
use Rattle.sv_uri.specs.declared.path.Canon.{Canon}
use Rattle.sv_message.specs.Phrases.{phrase_of}

-- ---- only calls of listeners

abbrev AreHeard : List Record → Type 0
AreHeard made = AllByRecursion (λ one. is_of_listener one ≡ true) made

all_heard : (listeners : ℕ) (events : List Event) → AreHeard (all_told listeners events)
all_heard listeners events = all_keep_alone AreHeard (λ at event r h. (refl, h)) listeners events tt

one_heard : (listeners : ℕ) (event : Event) → AreHeard (told event listeners)
one_heard listeners event = subst AreHeard (append-nil (told event listeners)) (all_heard listeners (event ∷ []))

ends_heard : (ended : List EndedSession) (listeners : ℕ) → AreHeard (ends_told ended listeners)
ends_heard [] listeners = tt
ends_heard (session ∷ ended) listeners =
    all_keep AreHeard (λ at event r h. (refl, h)) listeners (end_events session) (ends_told ended listeners) (ends_heard ended listeners)

heard_then : (front back : List Record) → AreHeard front → AreHeard back → AreHeard (front ++ back)
heard_then [] back one two = two
heard_then (made ∷ front) back one two = (one.0, heard_then front back one.1 two)

-- ---- operations that call no component

pub reset_silent : (status : ℕ) → Silent (Resets status None)
reset_silent status =
    then_silent (becomes (on_exchange reset)) (λ _. makes (SetStatus status) >> sets None) (λ x y r result h. h.0)
    (λ _. then_silent (makes (SetStatus status)) (λ _. sets None) (makes_silent (SetStatus status)) (λ _. gives_silent tt))

pub plain_silent : (status : ℕ) → Silent (Plain status None)
plain_silent status =
    let typed = SetHeader (codes "content-type") (codes "text/plain") in
    let written = Write (plain_text status) in
    then_silent (Resets status None) (λ _. makes typed >> makes written) (reset_silent status)
    (λ _. then_silent (makes typed) (λ _. makes written) (makes_silent typed) (λ _. makes_silent written))

pub unless_silent : (next : Does (Unit {0})) → Silent next → Silent (unless_committed next)
unless_silent next silent x y r result done =
    chosen_then x.exchange.committed breaks next x y r result (λ _ broke. broke.0) (λ _ made. silent x y r result made) done

pub error_silent : (site : Site) (status : ℕ) → Silent (ShowsError site status None)
error_silent site status =
    let kept : KeptError = record { status = status; text = phrase_of status; servlet = None; field = None } in
    then_silent (keeps kept) (λ _. unless_committed (Plain status None)) (λ x y r result h. h.0)
    (λ _. unless_silent (Plain status None) (plain_silent status))

pub sends_silent : (location : List ℕ) → Silent (SendsTo location)
sends_silent location =
    then_silent (makes (SetStatus SEE_OTHER)) (λ _. makes (SetHeader (codes "location") location)) (makes_silent (SetStatus SEE_OTHER))
    (λ _. makes_silent (SetHeader (codes "location") location))

module _ (site : Site) where
  tells_heard : (event : Option Event) (x y : State) (r : List Record) (result : Option (Unit {0})) → Tells site event x r y result → AreHeard r
  tells_heard None x y r result h = subst AreHeard (sym h.0) tt
  tells_heard (Some event) x y r result h = subst AreHeard (sym h.0) (one_heard site.listeners event)

  answer_silent : (canon : Canon) (answer : Answer) → is_dispatch answer ≡ false → Silent (Answers site canon answer)
  answer_silent canon answers.Entered none = absurd (cc)
  answer_silent canon (answers.Page page) none = absurd (cc)
  answer_silent canon (answers.Error status None) none = error_silent site status
  answer_silent canon (answers.Error status (Some page)) none = absurd (cc)
  answer_silent canon (answers.SeeOther location) none = sends_silent location

  -- an answer without a dispatch calls only listeners, even if memory runs out
  answered_heard : (canon : Canon) (event : Option Event) (answer : Answer) (x y : State) (r : List Record) (result : Option (Unit {0}))
      → is_dispatch answer ≡ false → Answered site canon event answer x r y result → AreHeard r
  answered_heard canon event answer x y r result none (inl both) =
      subst AreHeard (sym both.is_joined)
      (heard_then both.front both.back (tells_heard event x both.between both.front (Some both.given) both.begins)
      (subst AreHeard (sym (answer_silent canon answer none both.between y both.back result both.goes_on)) tt))
  answered_heard canon event answer x y r result none (inr first) = tells_heard event x y r None first.0

module _ {S F L : Type 0} (moving : ComponentSteps S F L) where
  -- notifications move neither servlets nor filters
  heard_runs : (before after : World S F L) (made : List Record) → IsRun moving before made after → AreHeard made
      → (after.servlets ≡ before.servlets) × (after.filters ≡ before.filters)
  unfolding IsRun
  heard_runs before after [] ran heard = (ap (λ (w : World S F L). w.servlets) ran, ap (λ (w : World S F L). w.filters) ran)
  heard_runs before after (OfListener place event ∷ others) ran heard =
      let rest = heard_runs ran.0 after others ran.2 heard.1 in
      (rest.0 ∙ ran.1.component.1, rest.1 ∙ ran.1.component.2)
  heard_runs before after (OfServlet place call ∷ others) ran heard = let no : false ≡ true = heard.0 in cc
  heard_runs before after (OfFilter place call ∷ others) ran heard = let no : false ≡ true = heard.0 in cc

  same_both : (context after : ContextState S F L) → (after.servlets ≡ context.servlets) × (after.filters ≡ context.filters)
      → servlets_and_filters after ≡ servlets_and_filters context
  same_both context after same = λ i. (same.0 i, same.1 i)

  answered_same : (asked : Asked) (context after : ContextState S F L) (noted noted' : JournalState) (exchange : exchanges.State) (result : Option (Unit {0}))
      → is_dispatch (admitted context asked).answer ≡ false → IsAnswered moving asked context noted exchange result after noted'
      → servlets_and_filters after ≡ servlets_and_filters context
  answered_same asked context after noted noted' exchange result none did =
      same_both context after
      (heard_runs (world_of context (with_entry (admitted context asked).entry noted)) (world_of after noted') did.made did.runs
      (answered_heard (site_of context.content) asked.canon (admitted context asked).event (admitted context asked).answer
      (state_in context (exchange_begun context asked)) (state_in after exchange) did.made result none did.answers))

  cut_same : (asked : Asked) (context after : ContextState S F L) (noted noted' : JournalState)
      → is_dispatch (admitted context asked).answer ≡ false → CutShort moving asked context noted after noted'
      → servlets_and_filters after ≡ servlets_and_filters context
  cut_same asked context after noted noted' none (inl ended) = ap servlets_and_filters ended.stays
  cut_same asked context after noted noted' none (inr did) = answered_same asked context after noted noted' did.0 None none did.1

  expiry_same : (context after : ContextState S F L) (moment : ℕ) (noted noted' : JournalState) → Expires moving moment context noted after noted'
      → servlets_and_filters after ≡ servlets_and_filters context
  expiry_same context after moment noted noted' did =
      let made = ends_told did.ended (length context.listeners) in
      same_both context after
      (heard_runs (world_of context noted) (world_of after noted') made
      (runs_grown moving (world_of context noted) (world_of after noted') made did.told)
      (ends_heard did.ended (length context.listeners)))

  pub the_undispatched_call_none : {Words : Type 0} (draws : Words → ℕ × ℕ → Words → Type 0) → TheUndispatchedCallNone moving draws
  the_undispatched_call_none draws before after happening breaks place none =
      event_same (theory moving draws) servlets_and_filters is_dispatched place
      (λ handling handles undispatched.
      answered_same (asked_of handling.context handling.request) handling.context handling.after new_journal (whole handling.entries)
      handles.exchange (Some tt) undispatched handles.is_answered)
      (λ context left request cut undispatched. cut_same (asked_of context request) context left new_journal (whole cut.0) undispatched cut.1)
      (λ context settled moment told expires. expiry_same context settled moment new_journal (whole told) expires)
      before after happening breaks none
