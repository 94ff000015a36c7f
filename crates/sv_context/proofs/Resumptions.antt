-- The sessions of a suspended context go on or end, one after another.
use Rattle.std.proofs.Common.{◌≡◌, ℕ, ◌<◌, ◌-◌, true, false, List, [], ◌∷◌, ◌++◌, length, map, Option, None, Some, refl, sym, ◌∙◌, ap, subst, append_assoc, append-nil, arith}
use Rattle.std.specs.Option.{option_and_then, option_map, option_map_or}
use Rattle.std.proofs.lemmas.List.{map-append}
use Rattle.std.specs.Prelude.{is_some}
use Rattle.sv_component.specs.Runs.{IsRun, Runs}
use Rattle.sv_component.specs.Steps.{ComponentSteps}
use Rattle.sv_context.specs.Expiry.{ends_told}
use Rattle.sv_context.specs.Deployment.{no_sessions}
use Rattle.sv_context.specs.Resuming.{Resumes, ResumesAll, ResumesWith, StrangersEnd, Takes, TakesAll, caller_now, ending_sessions, keeps_caller, resumed_session, resumed_sessions}
use Rattle.sv_context.proofs.Expiries.{components_stay, told_more, world_same}
use Rattle.sv_context.proofs.Going.{AreUpTo, IsNext, changed_past, ends, goes_on, next_past, none_past, numbered_past, rises_to, up_to_last, up_to_more, without_past}
use Rattle.sv_context.specs.State.{AreComponentsOf, ContextState, context_of, world_of}
use Rattle.sv_context.specs.declared.resumption.Resumption.{Resumption}
use Rattle.sv_journal.specs.Journal.{JournalState}
use Rattle.sv_lifecycle.specs.declared.deployment.Deployment.{Deployment}
use Rattle.sv_lifecycle.specs.declared.suspended_context.SuspendedContext.{SuspendedContext}
use Rattle.sv_live.specs.Calling.{StandsAsBefore}
use Rattle.sv_live.specs.SessionEnds.{all_told, end_events}
use Rattle.sv_live.specs.Standing.{LiveState, live_world}
use Rattle.sv_policy.specs.Compiled.{Standing}
use Rattle.sv_realm.specs.Realm.{successor}
use Rattle.sv_realm.specs.declared.account.User.{User}
use Rattle.sv_session.specs.Calls.{ended, ending, with_caller, without}
use Rattle.sv_session.specs.Restoring.{session_after}
use Rattle.sv_session.specs.Store.{IsOrderly, NumbersRise, Session, Store}
use Rattle.sv_tree.specs.SiteOfDescriptor.{Content}
use Rattle.sv_session.specs.declared.ended_sessions.EndedSession.{EndedSession}

module _ (users earlier : List User) (session : Session) where
  -- If a caller is still a user, the session goes on.
  abbrev GoesOnAs : Option ℕ → Option ℕ → Type 0
  GoesOnAs caller old = (option_map_or (λ own. is_some (successor users earlier own)) old true ≡ true)
      × (record session { caller = option_and_then (successor users earlier) old } ≡ record session { caller = caller })

  found_goes_on : (caller : Option ℕ) (old : ℕ) (found : Option ℕ) → successor users earlier old ≡ found → Some caller ≡ option_map Some found
      → GoesOnAs caller (Some old)
  found_goes_on caller old None found is = cc
  found_goes_on caller old (Some own) found is =
      let same : caller ≡ Some own = cc in (
        ap is_some found,
        ap (λ (now : Option ℕ). record session { caller = now }) (found ∙ sym same),
      )

  by_caller : (caller old : Option ℕ) → Some caller ≡ caller_now users earlier old → GoesOnAs caller old
  by_caller caller None is =
      let same : caller ≡ None = cc in (refl, ap (λ (now : Option ℕ). record session { caller = now }) (sym same))
  by_caller caller (Some old) is = found_goes_on caller old (successor users earlier old) refl is

  pub goes_on_as : (caller : Option ℕ) → Some caller ≡ caller_now users earlier session.caller
      → (keeps_caller users earlier session ≡ true) × (resumed_session users earlier session ≡ record session { caller = caller })
  goes_on_as caller is = by_caller caller session.caller is

  missing_ends : (old : ℕ) (found : Option ℕ) → successor users earlier old ≡ found → None ≡ option_map Some found
      → is_some (successor users earlier old) ≡ false
  missing_ends old None found is = ap is_some found
  missing_ends old (Some own) found is = cc

  none_by : (old : Option ℕ) → None ≡ caller_now users earlier old → option_map_or (λ own. is_some (successor users earlier own)) old true ≡ false
  none_by None is = cc
  none_by (Some old) is = missing_ends old (successor users earlier old) refl is

  -- If it is no user any more, the session ends.
  pub ends_as : None ≡ caller_now users earlier session.caller → keeps_caller users earlier session ≡ false
  ends_as is = none_by session.caller is

module _ {S F L : Type 0} (moving : ComponentSteps S F L) (users earlier : List User) (live : LiveState S F L) (store : Store) (noted : JournalState) where
  -- The sessions up to a number have been passed.
  pub record Progress (number : ℕ) (live_now : LiveState S F L) (now : Store) (noted_now : JournalState) : Type 0 where
    pub done : List Session
    pub rest : List Session
    pub are : store.sessions ≡ done ++ rest
    pub passed : AreUpTo number (resumed_sessions users earlier done)
    pub rise : NumbersRise number store.serial rest
    pub now_is : now ≡ record store { sessions = resumed_sessions users earlier done ++ rest }
    pub told : Runs moving (live_world live noted) (ends_told (map ended (ending_sessions users earlier done)) (length live.parts.listeners.items)) (live_world live_now noted_now)
    pub stands : StandsAsBefore live live_now

  pub nothing_passed : IsOrderly store → Progress 0 live store noted
  nothing_passed orderly = record {
    done = [];
    rest = store.sessions;
    are = refl;
    passed = tt;
    rise = orderly;
    now_is = refl;
    told = λ from made ran. subst (λ all. IsRun moving from all (live_world live noted)) (sym (append-nil made)) ran;
    stands = record { context = refl; initialised = refl; standings = refl; counts = record { servlets = refl; filters = refl; listeners = refl } };
  }

  module _ (number : ℕ) (live_now : LiveState S F L) (now : Store) (noted_now : JournalState) (so_far : Progress number live_now now noted_now) where
    -- No session is left.
    pub all_passed : None ≡ session_after number now → StrangersEnd moving users earlier live store noted live_now now noted_now
    all_passed none =
        let left : so_far.rest ≡ [] =
        none_past number store.serial (resumed_sessions users earlier so_far.done) so_far.rest so_far.passed so_far.rise
        (sym (none ∙ ap (λ (at : Store). session_after number at) so_far.now_is)) in
        let whole : store.sessions ≡ so_far.done = so_far.are ∙ ap (λ rest. so_far.done ++ rest) left ∙ append-nil so_far.done in record {
          told = subst (λ sessions. Runs moving (live_world live noted) (ends_told (map ended (ending_sessions users earlier sessions)) (length live.parts.listeners.items)) (live_world live_now noted_now))
              (sym whole) so_far.told;
          store_is = so_far.now_is ∙ ap (λ (sessions : List Session). record store { sessions = sessions })
              (ap (λ rest. resumed_sessions users earlier so_far.done ++ rest) left ∙ append-nil (resumed_sessions users earlier so_far.done)
              ∙ ap (resumed_sessions users earlier) (sym whole));
          stands = so_far.stands;
        }

    -- The next session.
    module _ (session : Session) (found : Some session ≡ session_after number now) where
      next : IsNext session so_far.rest
      next =
          next_past number store.serial (resumed_sessions users earlier so_far.done) so_far.rest session so_far.passed so_far.rise
          (sym (found ∙ ap (λ (at : Store). session_after number at) so_far.now_is))

      rise_next : NumbersRise number store.serial (session ∷ next.others)
      rise_next = subst (NumbersRise number store.serial) next.are so_far.rise

      now_next : now ≡ record store { sessions = resumed_sessions users earlier so_far.done ++ session ∷ next.others }
      now_next = so_far.now_is ∙ ap (λ (rest : List Session). record store { sessions = resumed_sessions users earlier so_far.done ++ rest }) next.are

      pub nearer : store.serial - session.number < store.serial - number
      nearer = omega (arith, rise_next.0, rises_to session.number store.serial next.others rise_next.1)

      are_next : store.sessions ≡ (so_far.done ++ session ∷ []) ++ next.others
      are_next = so_far.are ∙ ap (λ rest. so_far.done ++ rest) next.are ∙ sym (append_assoc so_far.done (session ∷ []) next.others)

      passed_next : AreUpTo session.number (resumed_sessions users earlier so_far.done)
      passed_next = up_to_more number session.number (resumed_sessions users earlier so_far.done) (omega (arith, rise_next.0)) so_far.passed

      -- It goes on.
      pub one_goes_on : (caller : Option ℕ) → Some caller ≡ caller_now users earlier session.caller → (after : Store)
          → after ≡ with_caller session.number caller now → Progress session.number live_now after noted_now
      one_goes_on caller is after left =
          let fate = goes_on_as users earlier session caller is in
          let more = goes_on (keeps_caller users earlier) (resumed_session users earlier) so_far.done session fate.0 in record {
            done = so_far.done ++ session ∷ [];
            rest = next.others;
            are = are_next;
            passed = subst (AreUpTo session.number) (sym more.0)
                (up_to_last session.number (resumed_sessions users earlier so_far.done) (resumed_session users earlier session) (omega arith) passed_next);
            rise = rise_next.1;
            now_is = left ∙ ap (with_caller session.number caller) now_next
                ∙ ap (λ (sessions : List Session). record store { sessions = sessions })
                (changed_past number session rise_next.0 next.others (λ one. record one { caller = caller }) (resumed_sessions users earlier so_far.done) so_far.passed
                ∙ ap (λ one. resumed_sessions users earlier so_far.done ++ one ∷ next.others) (sym fate.1)
                ∙ sym (append_assoc (resumed_sessions users earlier so_far.done) (resumed_session users earlier session ∷ []) next.others)
                ∙ ap (λ front. front ++ next.others) (sym more.0));
            told = subst (λ sessions. Runs moving (live_world live noted) (ends_told (map ended sessions) (length live.parts.listeners.items)) (live_world live_now noted_now))
                (sym more.1) so_far.told;
            stands = so_far.stands;
          }

      -- It is found by its number.
      pub is_numbered_so : ending session.number now ≡ Some (ended session)
      is_numbered_so =
          ap (ending session.number) now_next
          ∙ ap (option_map ended) (numbered_past number session rise_next.0 next.others (resumed_sessions users earlier so_far.done) so_far.passed)

      -- It ends, and the listeners are notified.
      pub one_ends : None ≡ caller_now users earlier session.caller → (after : Store) → after ≡ without session.number now
          → (gone : EndedSession) → Some gone ≡ ending session.number now → (live_after : LiveState S F L) (noted_after : JournalState)
          → Runs moving (live_world live_now noted_now) (all_told (end_events gone) (length live_now.parts.listeners.items)) (live_world live_after noted_after)
          → StandsAsBefore live_now live_after → Progress session.number live_after after noted_after
      one_ends is after left gone found_gone live_after noted_after made stands =
          let fate = ends_as users earlier session is in
          let more = ends (keeps_caller users earlier) (resumed_session users earlier) so_far.done session fate in
          let itself : gone ≡ ended session = let both = found_gone ∙ is_numbered_so in cc in
          let before = map ended (ending_sessions users earlier so_far.done) in
          let count = length live.parts.listeners.items in
          let behind = subst (λ (one : EndedSession). Runs moving (live_world live_now noted_now) (all_told (end_events one) count) (live_world live_after noted_after)) itself
          (subst (λ n. Runs moving (live_world live_now noted_now) (all_told (end_events gone) n) (live_world live_after noted_after)) so_far.stands.counts.listeners made) in record {
            done = so_far.done ++ session ∷ [];
            rest = next.others;
            are = are_next;
            passed = subst (AreUpTo session.number) (sym more.0) passed_next;
            rise = rise_next.1;
            now_is = left ∙ ap (without session.number) now_next
                ∙ ap (λ (sessions : List Session). record store { sessions = sessions })
                (without_past number session rise_next.0 next.others (resumed_sessions users earlier so_far.done) so_far.passed
                ∙ ap (λ front. front ++ next.others) (sym more.0));
            told = λ from made_before ran.
                subst (λ all. IsRun moving from all (live_world live_after noted_after))
                (append_assoc made_before (ends_told before count) (all_told (end_events (ended session)) count)
                ∙ ap (λ told. made_before ++ told)
                (sym (told_more before (ended session) count)
                ∙ ap (λ ones. ends_told ones count) (sym (map-append ended (ending_sessions users earlier so_far.done) (session ∷ [])))
                ∙ ap (λ sessions. ends_told (map ended sessions) count) (sym more.1)))
                (behind from (made_before ++ ends_told before count) (so_far.told from made_before ran));
            stands = record {
              context = stands.context ∙ so_far.stands.context;
              initialised = stands.initialised ∙ so_far.stands.initialised;
              standings = stands.standings ∙ so_far.stands.standings;
              counts = record {
                servlets = stands.counts.servlets ∙ so_far.stands.counts.servlets;
                filters = stands.counts.filters ∙ so_far.stands.counts.filters;
                listeners = stands.counts.listeners ∙ so_far.stands.counts.listeners;
              };
            };
          }

-- A context resumes.
module _ {S F L : Type 0} (moving : ComponentSteps S F L) where
  pub resumed_so : (content : Content) (policy : Standing) (users : List User) (live live_after : LiveState S F L) (store before after : Store)
      (resumes : Resumption) (noted noted_after : JournalState) → AreComponentsOf content live
      → before ≡ record resumes.sessions.store { limit = (no_sessions content.app).limit; interval = (no_sessions content.app).interval }
      → StrangersEnd moving users resumes.users live before noted live_after after noted_after
      → ResumesWith moving resumes (context_of content policy users live store) noted (context_of content resumes.policy users live_after after) noted_after
  resumed_so content policy users live live_after store before after resumes noted noted_after components limited strangers =
      let gone = ends_told (map ended (ending_sessions users resumes.users resumes.sessions.store.sessions)) (length live.parts.listeners.items) in
      let same : before.sessions ≡ resumes.sessions.store.sessions = ap (λ (at : Store). at.sessions) limited in
      let told = subst (λ sessions. Runs moving (live_world live noted) (ends_told (map ended (ending_sessions users resumes.users sessions)) (length live.parts.listeners.items)) (live_world live_after noted_after))
      same strangers.told in record {
        told = subst (λ from. Runs moving from gone (world_of (context_of content resumes.policy users live_after after) noted_after))
            (world_same content policy users live store noted components)
            (subst (λ to. Runs moving (live_world live noted) gone to)
            (world_same content resumes.policy users live_after after noted_after (components_stay content live live_after components strangers.stands)) told);
        store = strangers.store_is ∙ ap (λ (at : Store). record at { sessions = resumed_sessions users resumes.users at.sessions }) limited;
        stays = record { content = refl; policy = refl; users = refl; servlets = strangers.stands.counts.servlets; filters = strangers.stands.counts.filters; listeners = strangers.stands.counts.listeners; initialised = strangers.stands.initialised };
        standings = strangers.stands.standings;
      }

-- One more context resumes, or has nothing to resume with.
module _ {S F L : Type 0} (moving : ComponentSteps S F L) where
  pub resumes_next : (resumptions : List (Option Resumption)) (first : Option Resumption) (rest : List (Option Resumption)) (contexts : List (ContextState S F L))
      (context : ContextState S F L) (others : List (ContextState S F L)) (noted between after : JournalState) (now : ContextState S F L) (last : List (ContextState S F L))
      → resumptions ≡ first ∷ rest → contexts ≡ context ∷ others
      → Resumes moving first context noted now between → ResumesAll moving rest others between last after
      → ResumesAll moving resumptions contexts noted (now ∷ last) after
  resumes_next resumptions first rest contexts context others noted between after now last is are one all =
      subst (λ items. ResumesAll moving items contexts noted (now ∷ last) after) (sym is)
      (subst (λ items. ResumesAll moving (first ∷ rest) items noted (now ∷ last) after) (sym are)
      (now, last, between, one, all, refl))

  -- Nothing is left to resume with.
  pub resumes_none : (resumptions : List (Option Resumption)) (contexts : List (ContextState S F L)) (noted : JournalState) → resumptions ≡ []
      → ResumesAll moving resumptions contexts noted contexts noted
  resumes_none resumptions [] noted is = subst (λ items. ResumesAll moving items [] noted [] noted) (sym is) (refl, refl)
  resumes_none resumptions (context ∷ contexts) noted is =
      subst (λ items. ResumesAll moving items (context ∷ contexts) noted (context ∷ contexts) noted) (sym is) (refl, refl)

-- One more deployment takes what remains of its context.
pub takes_next : {S F L : Type 0} (front : List (Deployment S F L)) (deployment : Deployment S F L) (before between after : List SuspendedContext)
    (taken : List (Option Resumption)) (one : Option Resumption) → TakesAll front before taken between → Takes deployment between one after
    → TakesAll (front ++ deployment ∷ []) before (taken ++ one ∷ []) after
takes_next [] deployment before between after taken one so_far takes = (
  one,
  [],
  after,
  subst (λ (list : List SuspendedContext). Takes deployment list one after) so_far.1 takes,
  (refl, refl),
  ap (λ ones. ones ++ one ∷ []) so_far.0,
)
takes_next (first ∷ front) deployment before between after taken one so_far takes = (
  so_far.0,
  so_far.1 ++ one ∷ [],
  so_far.2,
  so_far.3,
  takes_next front deployment so_far.2 between after so_far.1 one so_far.4 takes,
  ap (λ ones. ones ++ one ∷ []) so_far.5,
)
