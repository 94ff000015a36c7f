-- The servlets that an answer's calls put out of service permanently.
use Rattle.std.specs.Prelude.{codes}
use Rattle.std.proofs.Common.{◌≡◌, inl, inr, ℕ, zero, suc, Bool, true, false, eqb, List, [], ◌∷◌, ◌++◌, Option, None, Some, refl, sym, ap, ◌∙◌, subst, append-nil, slice_index_or, slice_set, if◌then◌else◌}
use Rattle.std.specs.List.{list_any}
use Rattle.std.proofs.lemmas.Bool.{eqb-true, eqb-false}
use Rattle.sv_admission.specs.declared.answer.Answer.{Answer}
use Rattle.sv_admission.specs.declared.answer.Answer.TheVariants as answers
use Rattle.sv_admission.specs.declared.answer.TheConstants.{SEE_OTHER}
use Rattle.sv_component.specs.Call.{Call, Destroyed, Serviced}
use Rattle.sv_component.specs.Runs.{OfServlet, Record}
use Rattle.sv_component.specs.Standing.{is_gone, standing_now}
use Rattle.sv_component.specs.declared.answers.Step.{Step}
use Rattle.sv_component.specs.declared.answers.Step.TheVariants as steps
use Rattle.sv_component.specs.declared.standing.Standing.{Standing}
use Rattle.sv_component.specs.declared.standing.Standing.TheVariants.{Serving, Gone, Away}
use Rattle.sv_context.specs.Answered.{Answered, Answers, Requested, SendsTo, Tells}
use Rattle.sv_context.specs.Expiry.{ends_told}
use Rattle.sv_context.specs.Retiring.{EndsSo, Retires, calls_of, gone_at, is_destroy_of_filter}
use Rattle.sv_context.specs.Retirement.{ends_none, retires_join, retires_none}
use Rattle.sv_exchange.specs.Changing.{SetHeader, SetStatus}
use Rattle.sv_session.specs.declared.event.Event.{Event}
use Rattle.sv_session.specs.declared.event.Event.TheVariants.{RequestDestroyed, RequestInitialized}
use Rattle.sv_live.specs.SessionEnds.{end_events}
use Rattle.sv_live.specs.Standing as lifecycle
use Rattle.sv_listeners.specs.Telling.{told}
use Rattle.sv_mapping.specs.declared.kind.Kind.{Kind}
use Rattle.sv_mapping.specs.declared.kind.Kind.TheVariants as kinds
use Rattle.sv_session.specs.declared.ended_sessions.EndedSession.{EndedSession}
use Rattle.sv_tree.proofs.Bounding.{AnyField, ErrorSteps, error_keeps, served_keeps}
use Rattle.sv_tree.proofs.Hearing.{all_keep, all_keep_alone}
use Rattle.sv_tree.proofs.Keeping.{FilterSteps, Keeps, Opens, Steps, away_by, called, gives_keeps, makes_keeps, then_keeps, told_by, tree_keeps, within_keeps}
use Rattle.sv_tree.specs.Does.{Does, ◌>>◌, makes}
use Rattle.sv_tree.specs.Served.{Served, ShowsError}
use Rattle.sv_tree.specs.Site.{Site}
use Rattle.sv_tree.specs.Filters.{after_of, before_of}
use Rattle.sv_tree.specs.State.{Exchange, State, counted, moment_after}
use Rattle.sv_tree.specs.Telling.{all_told, hears}
use Rattle.sv_tree.specs.Tree.{Tree, service_of}
use Rattle.sv_tree.specs.declared.limits.TheConstants.{MAX_NESTING}
use Rattle.sv_uri.specs.declared.path.Canon.{Canon}

-- ---- The states of servlets

same_standing : (standings : List Standing) (place : ℕ) → lifecycle.standing_at standings place ≡ slice_index_or standings place Gone
same_standing [] zero = refl
same_standing [] (suc place) = refl
same_standing (standing ∷ standings) zero = refl
same_standing (standing ∷ standings) (suc place) = same_standing standings place

-- A servlet that serves is not gone.
serves_now : (moment : ℕ) (standing : Standing) → standing_now moment standing ≡ Serving → is_gone standing ≡ false
serves_now moment Serving serving = refl
serves_now moment Gone serving = absurd (cc)
serves_now moment (Away until) serving = refl

not_gone : (moment place : ℕ) (standings : List Standing) → standing_now moment (slice_index_or standings place Gone) ≡ Serving → gone_at place standings ≡ false
not_gone moment place standings serving = ap is_gone (same_standing standings place) ∙ serves_now moment (slice_index_or standings place Gone) serving

-- The state of a servlet that is not gone changes.
set_there : (standings : List Standing) (place : ℕ) (standing : Standing) → gone_at place standings ≡ false
    → gone_at place (slice_set standings place standing) ≡ is_gone standing
set_there [] zero standing there = absurd (cc)
set_there [] (suc place) standing there = absurd (cc)
set_there (first ∷ standings) zero standing there = refl
set_there (first ∷ standings) (suc place) standing there = set_there standings place standing there

set_other : (standings : List Standing) (place other : ℕ) (standing : Standing) → ¬ (place ≡ other)
    → gone_at place (slice_set standings other standing) ≡ gone_at place standings
set_other [] place other standing differ = refl
set_other (first ∷ standings) zero zero standing differ = absurd (differ refl)
set_other (first ∷ standings) zero (suc other) standing differ = refl
set_other (first ∷ standings) (suc place) zero standing differ = refl
set_other (first ∷ standings) (suc place) (suc other) standing differ = set_other standings place other standing (λ same. differ (ap suc same))

-- ---- Listeners

none_called : (place listeners : ℕ) (events : List Event) → calls_of place (all_told listeners events) ≡ []
none_called place listeners events = all_keep_alone (λ r. calls_of place r ≡ []) (λ at event r h. h) listeners events refl

none_destroyed : (listeners : ℕ) (events : List Event) → list_any is_destroy_of_filter (all_told listeners events) ≡ false
none_destroyed listeners events = all_keep_alone (λ r. list_any is_destroy_of_filter r ≡ false) (λ at event r h. h) listeners events refl

-- No servlet is called, and no filter is destroyed.
pub record IsHeard (made : List Record) : Type 0 where
  pub servlets : (place : ℕ) → calls_of place made ≡ []
  pub filters : list_any is_destroy_of_filter made ≡ false

pub heard_retires : (before after : List Standing) (made : List Record) → IsHeard made → after ≡ before → Retires before made after
heard_retires before after made heard same = record {
  servlets = λ place.
      subst (λ calls. EndsSo (gone_at place before) calls (gone_at place after)) (sym (heard.servlets place))
      (subst (λ standings. EndsSo (gone_at place before) [] (gone_at place standings)) (sym same) (ends_none (gone_at place before)));
  filters = heard.filters;
}

pub told_heard : (listeners : ℕ) (events : List Event) → IsHeard (all_told listeners events)
told_heard listeners events = record { servlets = λ place. none_called place listeners events; filters = none_destroyed listeners events }

one_heard : (listeners : ℕ) (event : Event) → IsHeard (told event listeners)
one_heard listeners event = subst IsHeard (append-nil (told event listeners)) (told_heard listeners (event ∷ []))

pub ends_heard : (ended : List EndedSession) (listeners : ℕ) → IsHeard (ends_told ended listeners)
ends_heard [] listeners = record { servlets = λ place. refl; filters = refl }
ends_heard (session ∷ ended) listeners =
    let rest = ends_heard ended listeners in
    record {
      servlets = λ place. all_keep (λ r. calls_of place r ≡ []) (λ at event r h. h) listeners (end_events session) (ends_told ended listeners) (rest.servlets place);
      filters = all_keep (λ r. list_any is_destroy_of_filter r ≡ false) (λ at event r h. h) listeners (end_events session) (ends_told ended listeners) rest.filters;
    }

-- ---- One call of a servlet that is not gone, and the notifications that follow it

-- The call affects its own servlet and no other.
one_call : (before after : List Standing) (place other : ℕ) (call : Call) (behind : List Record) (test : Bool) → eqb other place ≡ test
    → gone_at place before ≡ false → EndsSo false (call ∷ []) (gone_at place after)
    → (¬ (other ≡ place) → gone_at other after ≡ gone_at other before)
    → calls_of other behind ≡ []
    → EndsSo (gone_at other before) ((if test then call ∷ [] else []) ++ calls_of other behind) (gone_at other after)
one_call before after place other call behind true is serving ends same none =
    let here : other ≡ place = eqb-true other place is in
    subst (λ calls. EndsSo (gone_at other before) (call ∷ calls) (gone_at other after)) (sym none)
    (subst (λ at. EndsSo (gone_at at before) (call ∷ []) (gone_at at after)) (sym here)
    (subst (λ gone. EndsSo gone (call ∷ []) (gone_at place after)) (sym serving) ends))
one_call before after place other call behind false is serving ends same none =
    subst (λ calls. EndsSo (gone_at other before) calls (gone_at other after)) (sym none)
    (subst (λ gone. EndsSo (gone_at other before) [] gone) (sym (same (eqb-false other place is))) (ends_none (gone_at other before)))

one_retires : (before after : List Standing) (place : ℕ) (call : Call) (behind : List Record) → gone_at place before ≡ false
    → EndsSo false (call ∷ []) (gone_at place after)
    → ((other : ℕ) → ¬ (other ≡ place) → gone_at other after ≡ gone_at other before)
    → IsHeard behind → Retires before (OfServlet place call ∷ behind) after
one_retires before after place call behind serving ends same heard = record {
  servlets = λ other. one_call before after place other call behind (eqb other place) refl serving ends (same other) (heard.servlets other);
  filters = heard.filters;
}

-- A service keeps the servlet, with the same state or another.
served_same : (before : List Standing) (place turn : ℕ) (step : Step) (x y : Exchange) (behind : List Record) → gone_at place before ≡ false → IsHeard behind
    → Retires before (service_of place turn x step y ∷ behind) before
served_same before place turn step x y behind serving heard =
    one_retires before before place (Serviced x turn step y) behind serving
    (subst (λ gone. EndsSo false (Serviced x turn step y ∷ []) gone) (sym serving) refl) (λ other differ. refl) heard

served_set : (before : List Standing) (place turn : ℕ) (step : Step) (x y : Exchange) (behind : List Record) (standing : Standing) → gone_at place before ≡ false
    → is_gone standing ≡ false → IsHeard behind
    → Retires before (service_of place turn x step y ∷ behind) (slice_set before place standing)
served_set before place turn step x y behind standing serving stays heard =
    one_retires before (slice_set before place standing) place (Serviced x turn step y) behind serving
    (subst (λ gone. EndsSo false (Serviced x turn step y ∷ []) gone) (sym (set_there before place standing serving ∙ stays)) refl)
    (λ other differ. set_other before other place standing differ) heard

served_by : (x : State) (place turn : ℕ) (step : Step) (x' e : Exchange) (behind : List Record) → gone_at place x.standings ≡ false → IsHeard behind
    → Retires x.standings (service_of place turn x' step e ∷ behind) (away_by place step (called e x)).standings
served_by x place turn (steps.Unavailable (Some seconds)) x' e behind serving heard =
    served_set x.standings place turn (steps.Unavailable (Some seconds)) x' e behind (Away (moment_after (called e x).exchange.moment seconds)) serving refl heard
served_by x place turn (steps.Unavailable None) x' e behind serving heard = served_same x.standings place turn (steps.Unavailable None) x' e behind serving heard
served_by x place turn steps.Done x' e behind serving heard = served_same x.standings place turn steps.Done x' e behind serving heard
served_by x place turn (steps.Forward text) x' e behind serving heard = served_same x.standings place turn (steps.Forward text) x' e behind serving heard
served_by x place turn (steps.Include text) x' e behind serving heard = served_same x.standings place turn (steps.Include text) x' e behind serving heard
served_by x place turn (steps.Error code text) x' e behind serving heard = served_same x.standings place turn (steps.Error code text) x' e behind serving heard
served_by x place turn (steps.Failed kind text) x' e behind serving heard = served_same x.standings place turn (steps.Failed kind text) x' e behind serving heard
served_by x place turn steps.NoMemory x' e behind serving heard = served_same x.standings place turn steps.NoMemory x' e behind serving heard

destroyed_once : (before : List Standing) (place : ℕ) → gone_at place before ≡ false → Retires before (OfServlet place Destroyed ∷ []) (slice_set before place Gone)
destroyed_once before place serving =
    one_retires before (slice_set before place Gone) place Destroyed [] serving
    (subst (λ gone. EndsSo false (Destroyed ∷ []) gone) (sym (set_there before place Gone serving)) ([], refl, refl))
    (λ other differ. set_other before other place Gone differ)
    record { servlets = λ at. refl; filters = refl }

-- ---- Dispatches

abbrev pub Ends : ℕ → State → List Record → State → Bool → Type 0
Ends room x r y b = Retires x.standings r y.standings

same : (x : State) → Retires x.standings [] x.standings
same x = retires_none x.standings x.standings refl

module _ (site : Site) where
  opens : (kind : Kind) → Opens site Ends kind
  opens kind room canon = record { stays = same; ends = λ x y z r h left. h; breaks = λ x y r h. h }

  law : Steps site Ends
  law = record {
    stays = λ room x b. same x;
    joins = λ room x y z r s b one two. retires_join x.standings y.standings z.standings r s one two;
    keeps = λ room x kept own. same x;
    makes = λ room x change own. same x;
    empties = λ room x. same x;
    breaks = λ room x place turn step e left serving changes.
        served_same x.standings place turn step (counted x).exchange e (told_by site e) (not_gone x.exchange.moment place x.standings serving)
        (told_heard site.listeners e.events);
    serves = λ room x place turn step e left serving changes.
        served_by x place turn step (counted x).exchange e (told_by site e) (not_gone x.exchange.moment place x.standings serving)
        (told_heard site.listeners e.events);
    destroys = λ room x place b serving. destroyed_once x.standings place (not_gone x.exchange.moment place x.standings serving);
    forwards = opens kinds.Forward;
    includes = opens kinds.Include;
  }

  filters : FilterSteps site Ends
  filters = record {
    before = λ room place x gate e b left changes.
        let told = told_heard site.listeners e.events in
        heard_retires x.standings x.standings (before_of place (counted x).exchange gate e ∷ told_by site e)
        record { servlets = told.servlets; filters = told.filters } refl;
    after = λ room place x done e b changes.
        let told = told_heard site.listeners e.events in
        heard_retires x.standings x.standings (after_of place x.exchange done e ∷ told_by site e)
        record { servlets = told.servlets; filters = told.filters } refl;
  }

  trees : (kind : Kind) (canon : Canon) → Keeps site Ends MAX_NESTING (Tree site MAX_NESTING kind canon)
  trees kind canon = tree_keeps site Ends law (within_keeps site Ends law filters) MAX_NESTING kind (opens kind) canon

  errors : ErrorSteps site Ends MAX_NESTING AnyField
  errors = record { resets = same; breaks = same; none = tt; sets = λ x field own. same x; owns = λ x y r b kept. kept tt }

  -- ---- Answers

  hears_end : (event : Event) → Keeps site Ends MAX_NESTING (hears site.listeners event)
  hears_end event x y r result h =
      heard_retires x.standings y.standings r (subst IsHeard (sym h.0) (one_heard site.listeners event)) (ap (λ (state : State). state.standings) h.1)

  tells_end : (event : Option Event) → Keeps site Ends MAX_NESTING (Tells site event)
  tells_end None = gives_keeps site Ends law MAX_NESTING tt
  tells_end (Some event) = hears_end event

  requested_end : (its : Does (Unit {0})) → Keeps site Ends MAX_NESTING its → Keeps site Ends MAX_NESTING (Requested site its)
  requested_end its ends =
      then_keeps site Ends law MAX_NESTING (hears site.listeners RequestInitialized) (λ _. its >> hears site.listeners RequestDestroyed)
      (hears_end RequestInitialized)
      (λ _. then_keeps site Ends law MAX_NESTING its (λ _. hears site.listeners RequestDestroyed) ends (λ _. hears_end RequestDestroyed))

  serving_ends : (kind : Kind) (canon : Canon) → Keeps site Ends MAX_NESTING (Served site kind canon)
  serving_ends kind canon = served_keeps site Ends law MAX_NESTING AnyField errors (trees kinds.Error) kind canon (trees kind canon)

  error_ends : (status : ℕ) (page : Option Canon) → Keeps site Ends MAX_NESTING (ShowsError site status page)
  error_ends = error_keeps site Ends law MAX_NESTING AnyField errors (trees kinds.Error)

  sends_end : (location : List ℕ) → Keeps site Ends MAX_NESTING (SendsTo location)
  sends_end location =
      then_keeps site Ends law MAX_NESTING (makes (SetStatus SEE_OTHER)) (λ _. makes (SetHeader (codes "location") location))
      (makes_keeps site Ends law MAX_NESTING (SetStatus SEE_OTHER) tt)
      (λ _. makes_keeps site Ends law MAX_NESTING (SetHeader (codes "location") location) (inr (inl refl)))

  answers_end : (canon : Canon) (answer : Answer) → Keeps site Ends MAX_NESTING (Answers site canon answer)
  answers_end canon answers.Entered = requested_end (Served site kinds.Request canon) (serving_ends kinds.Request canon)
  answers_end canon (answers.Page page) = requested_end (Served site kinds.Forward page) (serving_ends kinds.Forward page)
  answers_end canon (answers.Error status None) = error_ends status None
  answers_end canon (answers.Error status (Some page)) = requested_end (ShowsError site status (Some page)) (error_ends status (Some page))
  answers_end canon (answers.SeeOther location) = sends_end location

  -- This holds whether memory ran out or not.
  pub answered_retires : (canon : Canon) (event : Option Event) (answer : Answer) (x y : State) (r : List Record) (result : Option (Unit {0}))
      → Answered site canon event answer x r y result → Retires x.standings r y.standings
  answered_retires canon event answer =
      then_keeps site Ends law MAX_NESTING (Tells site event) (λ _. Answers site canon answer) (tells_end event) (λ _. answers_end canon answer)
