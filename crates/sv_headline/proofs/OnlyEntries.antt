-- Messages that stay out call no servlet with a dispatch of a request.
use Rattle.std.proofs.Common.{◌≡◌, ◌≢◌, ℕ, Bool, true, inl, inr, List, [], ◌∷◌, ◌++◌, map, reverse, Option, None, Some, refl, sym, ap, ◌∙◌, subst}
use Rattle.std.proofs.lemmas.List.{reverse-append}
use Rattle.sv_admission.specs.Answer.{answer_to}
use Rattle.sv_admission.specs.declared.answer.Answer.{Answer}
use Rattle.sv_admission.specs.declared.answer.Answer.TheVariants as answers
use Rattle.sv_component.specs.Call.{Serviced}
use Rattle.sv_component.specs.Runs.{OfListener, OfServlet, Record}
use Rattle.sv_component.specs.Steps.{ComponentSteps}
use Rattle.sv_context.specs.Answered.{Answered, Answers, Requested, SendsTo, Tells}
use Rattle.sv_exchange.specs.Dispatches.{error_in, innermost_kind, kind_of}
use Rattle.sv_headline.proofs.Undispatched.{error_silent, plain_silent, reset_silent, sends_silent, unless_silent}
use Rattle.sv_headline.specs.HandedOver.{OnlyEntriesAreDispatched}
use Rattle.sv_listeners.specs.Telling.{hearing_order, told}
use Rattle.sv_login.specs.declared.outcome.Outcome.{Outcome}
use Rattle.sv_login.specs.declared.outcome.Outcome.TheVariants as outcomes
use Rattle.sv_mapping.specs.declared.kind.Kind.{Kind}
use Rattle.sv_mapping.specs.declared.kind.Kind.TheVariants as kinds
use Rattle.sv_message.specs.Phrases.{phrase_of}
use Rattle.sv_session.specs.declared.event.Event.{Event}
use Rattle.sv_session.specs.declared.event.Event.TheVariants.{RequestDestroyed, RequestInitialized}
use Rattle.sv_tree.proofs.Answering.{answers_have_one_page}
use Rattle.sv_tree.proofs.Changing.{begun_dispatches, called_unchanged, emptied_unchanged, made_unchanged, same_dispatches, unchanged}
use Rattle.sv_tree.proofs.Doing.{chosen_then, not_true}
use Rattle.sv_tree.proofs.Hearing.{all_keep_alone}
use Rattle.sv_tree.proofs.Keeping.{FilterSteps, Opens, Steps, away_unchanged, tree_gives, within_keeps}
use Rattle.sv_tree.proofs.Silence.{Silent, gives_silent}
use Rattle.sv_tree.specs.Does.{Does, ◌>>=◌, ◌>>◌, gives}
use Rattle.sv_tree.specs.Endings.{keeps}
use Rattle.sv_tree.specs.Laws.{PageCalls}
use Rattle.sv_tree.specs.Served as served
use Rattle.sv_tree.specs.Served.{Pages, Plain, Resets, Served, ShowsError, Shown, unless_committed}
use Rattle.sv_tree.specs.Site.{Site, begun, paths_in}
use Rattle.sv_tree.specs.SiteOfDescriptor.{Content}
use Rattle.sv_tree.specs.State.{Exchange, State}
use Rattle.sv_tree.specs.Telling.{all_told, hears}
use Rattle.sv_tree.specs.Tree.{Tree}
use Rattle.sv_tree.specs.declared.finished.Finished.{Finished}
use Rattle.sv_tree.specs.declared.finished.Finished.TheVariants.{Done, Error, Failed}
use Rattle.sv_tree.specs.declared.limits.TheConstants.{MAX_NESTING}
use Rattle.sv_uri.specs.declared.path.Canon.{Canon}

-- ---- calls of servlets in other dispatches than that of a request

abbrev IsOther : Record → Type 0
IsOther (OfServlet place (Serviced exchange turn step left)) = kind_of exchange ≢ kinds.Request
IsOther made = Unit {0}

abbrev AreOther : List Record → Type 0
AreOther [] = Unit {0}
AreOther (made ∷ others) = IsOther made × AreOther others

other_then : (front back : List Record) → AreOther front → AreOther back → AreOther (front ++ back)
other_then [] back one two = two
other_then (made ∷ front) back one two = (one.0, other_then front back one.1 two)

other_at : (front back : List Record) (made : Record) → AreOther (front ++ made ∷ back) → IsOther made
other_at [] back made are = are.0
other_at (first ∷ front) back made are = other_at front back made are.1

other_heard : (event : Event) (places : List ℕ) → AreOther (map (λ place. OfListener place event) places)
other_heard event [] = tt
other_heard event (place ∷ places) = (tt, other_heard event places)

other_told : (event : Event) (count : ℕ) → AreOther (told event count)
unfolding told
other_told event count = other_heard event (hearing_order event count)

all_other : (count : ℕ) (events : List Event) → AreOther (all_told count events)
all_other count events = all_keep_alone AreOther (λ place event r h. (tt, h)) count events tt

abbrev CallsOthers : {A : Type 0} → Does A → Type 0
CallsOthers {A} does = (x y : State) (r : List Record) (result : Option A) → does x r y result → AreOther r

silent_others : {A : Type 0} (does : Does A) → Silent does → CallsOthers does
silent_others does silent x y r result h = subst AreOther (sym (silent x y r result h)) tt

then_others : {A B : Type 0} (first : Does A) (next : A → Does B) → CallsOthers first → ((value : A) → CallsOthers (next value)) → CallsOthers (first >>= next)
then_others first next one two x y r result (inl t) =
    subst AreOther (sym t.is_joined)
    (other_then t.front t.back (one x t.between t.front (Some t.given) t.begins) (two t.given t.between y t.back result t.goes_on))
then_others first next one two x y r result (inr t) = one x y r None t.0

-- ---- a dispatch

module _ (site : Site) where
  -- within a dispatch that is no request's, the current dispatches stay, and no servlet is called for a request
  abbrev Others : ℕ → State → List Record → State → Bool → Type 0
  Others room x r y b =
      (b ≡ true → y.exchange.dispatches ≡ x.exchange.dispatches) × (kind_of x.exchange ≢ kinds.Request → AreOther r)

  begun_kind : (kind : Kind) (canon : Canon) (x : Exchange) → kind_of (begun site kind canon x) ≡ kind
  begun_kind kind canon x =
      ap (λ dispatches. innermost_kind (reverse dispatches)) (begun_dispatches site kind canon x)
      ∙ ap innermost_kind (reverse-append x.dispatches ((record { kind = kind; paths = paths_in site canon x; error = error_in kind x.kept }) ∷ []))

  begun_other : (kind : Kind) (canon : Canon) (x : Exchange) → kind ≢ kinds.Request → kind_of (begun site kind canon x) ≢ kinds.Request
  begun_other kind canon x apart same = apart (sym (begun_kind kind canon x) ∙ same)

  opens : (kind : Kind) → kind ≢ kinds.Request → Opens site Others kind
  opens kind apart room canon = record {
    stays = λ x. (not_true, λ other. tt);
    ends = λ x y z r h left.
        (λ b. same_dispatches site kind canon x.exchange y.exchange z (h.0 refl) left, λ other. h.1 (begun_other kind canon x.exchange apart));
    breaks = λ x y r h. (not_true, λ other. h.1 (begun_other kind canon x.exchange apart));
  }

  forward_apart : kinds.Forward ≢ kinds.Request
  forward_apart same = cc

  include_apart : kinds.Include ≢ kinds.Request
  include_apart same = cc

  error_apart : kinds.Error ≢ kinds.Request
  error_apart same = cc

  steps : Steps site Others
  steps = record {
    stays = λ room x b. (λ came. refl, λ other. tt);
    joins = λ room x y z r s b one two. (
      λ came. two.0 came ∙ one.0 refl,
      λ other. other_then r s (one.1 other) (two.1 (λ same. other (ap (λ dispatches. innermost_kind (reverse dispatches)) (sym (one.0 refl)) ∙ same))),
    );
    keeps = λ room x kept own. (λ came. refl, λ other. tt);
    makes = λ room x change own. (λ came. (made_unchanged change x.exchange).0.dispatches, λ other. tt);
    empties = λ room x. (λ came. (emptied_unchanged x.exchange).0.dispatches, λ other. tt);
    breaks = λ room x place turn step e left serving changes.
        (λ came. (called_unchanged x.exchange e changes).0.dispatches, λ other. (other, all_other site.listeners e.events));
    serves = λ room x place turn step e left serving changes.
        (λ came. (away_unchanged x place step e changes).0.dispatches, λ other. (other, all_other site.listeners e.events));
    destroys = λ room x place b serving. (λ came. refl, λ other. (tt, tt));
    forwards = opens kinds.Forward forward_apart;
    includes = opens kinds.Include include_apart;
  }

  filters : FilterSteps site Others
  filters = record {
    before = λ room place x gate e b left changes.
        (λ came. (called_unchanged x.exchange e changes).0.dispatches, λ other. (tt, all_other site.listeners e.events));
    after = λ room place x done e b changes.
        (λ came. (unchanged x.exchange e changes).0.dispatches, λ other. (tt, all_other site.listeners e.events));
  }

  tree_others : (room : ℕ) (kind : Kind) (canon : Canon) → kind ≢ kinds.Request → CallsOthers (Tree site room kind canon)
  tree_others room kind canon apart x y r result h =
      tree_gives site Others steps (within_keeps site Others steps filters) (λ (x : State) (r : List Record) (y : State) (b : Bool). AreOther r) room kind canon
      (λ left. record {
        stays = λ x. tt;
        ends = λ x y z r h left. h.1 (begun_other kind canon x.exchange apart);
        breaks = λ x y r h. h.1 (begun_other kind canon x.exchange apart);
      }) x y r result h

  -- ---- answers to messages that stay out

  page_others : (r : List Record) → PageCalls site r → AreOther r
  page_others r (inl none) = subst AreOther (sym none) tt
  page_others r (inr dispatch) = tree_others MAX_NESTING kinds.Error dispatch.0 error_apart dispatch.1 dispatch.2 r dispatch.3 dispatch.4

  served_others : (kind : Kind) (canon : Canon) → kind ≢ kinds.Request → CallsOthers (Served site kind canon)
  served_others kind canon apart x y r result h =
      let page = answers_have_one_page site kind canon x y r result h in
      subst AreOther (sym page.are)
      (other_then page.front page.back (tree_others MAX_NESTING kind canon apart x page.between page.front page.finished page.dispatch) (page_others page.back page.page))

  shown_others : (status : ℕ) (finished : Finished) → CallsOthers (Shown status None finished)
  shown_others status Done = silent_others (gives tt) (gives_silent tt)
  shown_others status (Error other text) = silent_others (unless_committed (Plain status None)) (unless_silent (Plain status None) (plain_silent status))
  shown_others status (Failed kind text) = silent_others (unless_committed (Plain status None)) (unless_silent (Plain status None) (plain_silent status))

  paged_others : (status : ℕ) (page : Canon) → CallsOthers (Pages site status None (Some page))
  paged_others status page =
      then_others (Resets status None) (λ _. Tree site MAX_NESTING kinds.Error page >>= Shown status None) (silent_others (Resets status None) (reset_silent status))
      (λ _. then_others (Tree site MAX_NESTING kinds.Error page) (Shown status None) (tree_others MAX_NESTING kinds.Error page error_apart) (shown_others status))

  error_others : (status : ℕ) (page : Canon) → CallsOthers (ShowsError site status (Some page))
  error_others status page =
      then_others (keeps record { status = status; text = phrase_of status; servlet = None; field = None }) (λ _. unless_committed (Pages site status None (Some page)))
      (λ x y r result h. subst AreOther (sym h.0) tt)
      (λ _ x y r result h. chosen_then x.exchange.committed served.breaks (Pages site status None (Some page)) x y r result
      (λ _ broke. subst AreOther (sym broke.0) tt) (λ _ made. paged_others status page x y r result made) h)

  hears_others : (event : Event) → CallsOthers (hears site.listeners event)
  hears_others event x y r result h = subst AreOther (sym h.0) (other_told event site.listeners)

  requested_others : (dispatches : Does (Unit {0})) → CallsOthers dispatches → CallsOthers (Requested site dispatches)
  requested_others dispatches others =
      then_others (hears site.listeners RequestInitialized) (λ _. dispatches >> hears site.listeners RequestDestroyed) (hears_others RequestInitialized)
      (λ _. then_others dispatches (λ _. hears site.listeners RequestDestroyed) others (λ _. hears_others RequestDestroyed))

  answer_others : (canon : Canon) (answer : Answer) → answer ≢ answers.Entered → CallsOthers (Answers site canon answer)
  answer_others canon answers.Entered apart = absurd (apart refl)
  answer_others canon (answers.Page page) apart = requested_others (Served site kinds.Forward page) (served_others kinds.Forward page forward_apart)
  answer_others canon (answers.Error status None) apart = silent_others (ShowsError site status None) (error_silent site status)
  answer_others canon (answers.Error status (Some page)) apart = requested_others (ShowsError site status (Some page)) (error_others status page)
  answer_others canon (answers.SeeOther location) apart = silent_others (SendsTo location) (sends_silent location)

  tells_others : (event : Option Event) → CallsOthers (Tells site event)
  tells_others None = silent_others (gives tt) (gives_silent tt)
  tells_others (Some event) = hears_others event

  answered_others : (canon : Canon) (event : Option Event) (answer : Answer) → answer ≢ answers.Entered → CallsOthers (Answered site canon event answer)
  answered_others canon event answer apart =
      then_others (Tells site event) (λ _. Answers site canon answer) (tells_others event) (λ _. answer_others canon answer apart)

not_entered : (content : Content) (cause : Outcome) → cause ≢ outcomes.Entered → answer_to content cause ≢ answers.Entered
not_entered content outcomes.Protected apart same = cc
not_entered content (outcomes.LoggedIn number target) apart same = cc
not_entered content outcomes.LoginFailed apart same = cc
not_entered content outcomes.NoSession apart same = cc
not_entered content outcomes.Entered apart same = apart refl
not_entered content (outcomes.SentToLogin why) apart same = cc
not_entered content (outcomes.NoLogin why) apart same = cc
not_entered content (outcomes.Denied why) apart same = cc

module _ {S F L : Type 0} (moving : ComponentSteps S F L) where
  pub only_entries_are_dispatched : OnlyEntriesAreDispatched moving
  only_entries_are_dispatched handling front behind place exchange turn step left (inl enters) same = enters.0
  only_entries_are_dispatched handling front behind place exchange turn step left (inr out) same =
      let done = out.1.done in
      absurd (other_at front behind (OfServlet place (Serviced exchange turn step left))
      (answered_others _ _ _ _ (not_entered handling.context.content out.1.cause out.1.other) _ _ (front ++ OfServlet place (Serviced exchange turn step left) ∷ behind) (Some tt) done.answers) same)
