-- An expiry, session by session.
use Rattle.std.proofs.Common.{◌≡◌, ℕ, ◌<◌, Bool, List, [], ◌∷◌, ◌++◌, length, refl, sym, ◌∙◌, ap, subst, append_assoc, append-nil, arith, inl, inr, Option, None, Some}
use Rattle.std.specs.List.{find}
use Rattle.std.specs.Option.{option_and_then, option_map, option_map_or}
use Rattle.std.proofs.lemmas.Bool.{cases_Bool}
use Rattle.sv_component.specs.Runs.{IsRun, Runs}
use Rattle.sv_component.specs.World.{World}
use Rattle.sv_component.specs.Steps.{ComponentSteps}
use Rattle.sv_journal.specs.Journal.{JournalState}
use Rattle.sv_live.specs.Calling.{StandsAsBefore}
use Rattle.sv_live.specs.Standing.{LiveState, live_world}
use Rattle.sv_live.specs.SessionEnds.{all_told, end_events}
use Rattle.sv_live.specs.World.{HasSameCounts}
use Rattle.sv_session.specs.Calls.{ended, ending, expired_number, expiring, left_by_expiry, without}
use Rattle.sv_session.specs.Expiry.{HasNoneExpired}
use Rattle.sv_session.specs.Laws.{ExpiryEndsWhereNoneHasExpired}
use Rattle.sv_session.specs.Runs as sessions
use Rattle.sv_session.specs.Lists.{without_first}
use Rattle.sv_session.specs.Store.{Session, Store, is_numbered, numbered}
use Rattle.sv_session.specs.declared.ended_sessions.EndedSession.{EndedSession}
use Rattle.sv_context.specs.Expiry.{Expires, ends_told}
use Rattle.sv_policy.specs.Compiled.{Standing}
use Rattle.sv_realm.specs.declared.account.User.{User}
use Rattle.sv_tree.specs.SiteOfDescriptor.{Content}
use Rattle.sv_context.specs.State.{AreComponentsOf, AreCounted, ContextState, IsSameDeployment, context_of, world_of}

-- Contexts with the same parts are equal.
same_context : {S F L : Type 0} (one other : ContextState S F L) → one.content ≡ other.content → one.policy ≡ other.policy → one.users ≡ other.users
    → one.servlets ≡ other.servlets → one.filters ≡ other.filters → one.listeners ≡ other.listeners
    → one.initialised ≡ other.initialised → one.standings ≡ other.standings → one.store ≡ other.store → one ≡ other
same_context one other content policy users servlets filters listeners initialised standings store =
    let same : record {
      content = one.content;
      policy = one.policy;
      users = one.users;
      servlets = one.servlets;
      filters = one.filters;
      listeners = one.listeners;
      initialised = one.initialised;
      standings = one.standings;
      store = one.store;
    } ≡ other = rw (content, policy, users, servlets, filters, listeners, initialised, standings, store) refl in
    same

-- Started components of a content, as runs see them.
pub world_same : {S F L : Type 0} (content : Content) (policy : Standing) (users : List User) (live : LiveState S F L) (store : Store) (noted : JournalState)
    → AreComponentsOf content live → live_world live noted ≡ world_of (context_of content policy users live store) noted
world_same content policy users live store noted components =
    ap (λ (path : List ℕ). record { context = path; servlets = live.parts.servlets.items; filters = live.parts.filters.items; listeners = live.parts.listeners.items; journal = noted })
    components.context

pub counts_stay : {S F L : Type 0} (content : Content) (live live_after : LiveState S F L) → AreCounted content live → HasSameCounts live.parts live_after.parts
    → AreCounted content live_after
counts_stay content live live_after counted same = record {
  servlets = same.servlets ∙ counted.servlets;
  filters = same.filters ∙ counted.filters;
  listeners = same.listeners ∙ counted.listeners;
}

pub components_stay : {S F L : Type 0} (content : Content) (live live_after : LiveState S F L) → AreComponentsOf content live → StandsAsBefore live live_after
    → AreComponentsOf content live_after
components_stay content live live_after components stands = record {
  context = stands.context ∙ components.context;
  counts = counts_stay content live live_after components.counts stands.counts;
}

-- The notifications of one more session.
pub told_more : (ended : List EndedSession) (session : EndedSession) (count : ℕ)
    → ends_told (ended ++ session ∷ []) count ≡ ends_told ended count ++ all_told (end_events session) count
told_more [] session count = append-nil (all_told (end_events session) count)
told_more (first ∷ others) session count =
    ap (λ more. all_told (end_events first) count ++ more) (told_more others session count)
    ∙ sym (append_assoc (all_told (end_events first) count) (ends_told others count) (all_told (end_events session) count))

-- Removing a session shortens the list.
shorter_without : {X : Type 0} (t : X → Bool) (xs : List X) (x : X) → find t xs ≡ Some x → length (without_first t xs) < length xs
shorter_without t [] x h = cc
shorter_without t (y ∷ ys) x h =
    elim (cases_Bool (t y)) [ inl e ↦ rw e (omega arith) | inr e ↦ rw e (let rest = shorter_without t ys x (rw e at h) in omega (arith, rest)) ]

fewer_without : (number : ℕ) (store : Store) (session : EndedSession) (found : Option Session) → numbered number store ≡ found
    → option_map ended found ≡ Some session → length (without number store).sessions < length store.sessions
fewer_without number store session None is h = cc
fewer_without number store session (Some member) is h = shorter_without (is_numbered number) store.sessions member is

fewer_at : (store : Store) (session : EndedSession) (expired : Option ℕ) → option_and_then (λ number. ending number store) expired ≡ Some session
    → length (option_map_or (λ number. without number store) expired store).sessions < length store.sessions
fewer_at store session None h = cc
fewer_at store session (Some number) h = fewer_without number store session (numbered number store) refl h

pub fewer : (moment : ℕ) (store after : Store) (session : EndedSession) → Some session ≡ expiring moment store → after ≡ left_by_expiry moment store
    → length after.sessions < length store.sessions
fewer moment store after session ends left =
    subst (λ remaining. length remaining.sessions < length store.sessions) (sym left) (fewer_at store session (expired_number moment store) (sym ends))

-- If no session is found, none is removed.
without_none : {X : Type 0} (t : X → Bool) (xs : List X) → find t xs ≡ None → without_first t xs ≡ xs
without_none t [] h = refl
without_none t (y ∷ ys) h =
    elim (cases_Bool (t y)) [ inl e ↦ let found : Some y ≡ None = rw e at h in cc | inr e ↦ rw e (ap (λ rest. y ∷ rest) (without_none t ys (rw e at h))) ]

same_without : (number : ℕ) (store : Store) (found : Option Session) → numbered number store ≡ found → option_map ended found ≡ None → without number store ≡ store
same_without number store None is h = ap (λ (all : List Session). record store { sessions = all }) (without_none (is_numbered number) store.sessions is)
same_without number store (Some member) is h = cc

same_at : (store : Store) (expired : Option ℕ) → option_and_then (λ number. ending number store) expired ≡ None
    → option_map_or (λ number. without number store) expired store ≡ store
same_at store None h = refl
same_at store (Some number) h = same_without number store (numbered number store) refl h

pub left_same : (moment : ℕ) (store after : Store) → None ≡ expiring moment store → after ≡ left_by_expiry moment store → after ≡ store
left_same moment store after none left = left ∙ same_at store (expired_number moment store) (sym none)

module _ {S F L : Type 0} (moving : ComponentSteps S F L) where
  pub grows_nothing : (world : World S F L) → Runs moving world [] world
  grows_nothing world = λ from done ran. subst (λ all. IsRun moving from all world) (sym (append-nil done)) ran

  -- An empty run changes nothing.
  told_nothing : (before after : World S F L) → Runs moving before [] after → after ≡ before
  unfolding IsRun
  told_nothing before after grows = grows before [] refl

  -- No session has expired.
  module _ (law : ExpiryEndsWhereNoneHasExpired) (moment : ℕ) (before : ContextState S F L) (noted : JournalState) (fresh : HasNoneExpired moment before.store) where
    pub expires_nothing : Expires moving moment before noted before noted
    expires_nothing = record {
      ended = [];
      ends = ((law moment before.store).1 fresh, refl);
      told = grows_nothing (world_of before noted);
      stays = record { content = refl; policy = refl; users = refl; servlets = refl; filters = refl; listeners = refl; initialised = refl };
      standings = refl;
    }

    none_ended : (ended : List EndedSession) (after : Store) → sessions.Expires moment before.store ended after → (ended ≡ []) × (after ≡ before.store)
    none_ended [] after ends = (refl, ends.1)
    none_ended (session ∷ others) after ends = absurd (let none = (law moment before.store).1 fresh in let some = ends.0 in cc)

    pub nothing_expires : (after : ContextState S F L) (noted_after : JournalState) → Expires moving moment before noted after noted_after
        → (after ≡ before) × (noted_after ≡ noted)
    nothing_expires after noted_after expires =
        let none = none_ended expires.ended after.store expires.ends in
        let told = subst (λ ended. Runs moving (world_of before noted) (ends_told ended (length before.listeners)) (world_of after noted_after)) none.0 expires.told in
        let same = told_nothing (world_of before noted) (world_of after noted_after) told in (
          same_context after before expires.stays.content expires.stays.policy expires.stays.users (ap (λ world. world.servlets) same) (ap (λ world. world.filters) same)
              (ap (λ world. world.listeners) same) expires.stays.initialised expires.standings none.1,
          ap (λ world. world.journal) same,
        )

  -- The progress of an expiry: the sessions that ended, and how the rest completes it.
  pub record SoFar (moment : ℕ) (before : ContextState S F L) (noted : JournalState) (now : ContextState S F L) (noted_now : JournalState) : Type 0 where
    pub ended : List EndedSession
    pub ends : (rest : List EndedSession) (after : Store) → sessions.Expires moment now.store rest after → sessions.Expires moment before.store (ended ++ rest) after
    pub told : Runs moving (world_of before noted) (ends_told ended (length before.listeners)) (world_of now noted_now)
    pub stays : IsSameDeployment before now
    pub standings : now.standings ≡ before.standings

  pub nothing_yet : (moment : ℕ) (before : ContextState S F L) (noted : JournalState) → SoFar moment before noted before noted
  nothing_yet moment before noted = record {
    ended = [];
    ends = λ rest after rest_ends. rest_ends;
    told = grows_nothing (world_of before noted);
    stays = record { content = refl; policy = refl; users = refl; servlets = refl; filters = refl; listeners = refl; initialised = refl };
    standings = refl;
  }

  module _ (moment : ℕ) (before : ContextState S F L) (noted : JournalState) (now : ContextState S F L) (noted_now : JournalState) (so_far : SoFar moment before noted now noted_now) where
    -- One more session ends.
    pub one_more : (session : EndedSession) (after : ContextState S F L) (noted_after : JournalState)
        → Some session ≡ expiring moment now.store → after.store ≡ left_by_expiry moment now.store
        → Runs moving (world_of now noted_now) (all_told (end_events session) (length now.listeners)) (world_of after noted_after)
        → IsSameDeployment now after → after.standings ≡ now.standings
        → SoFar moment before noted after noted_after
    one_more session after noted_after ends left told stays standings = record {
      ended = so_far.ended ++ session ∷ [];
      ends = λ rest last rest_ends.
          subst (λ all. sessions.Expires moment before.store all last) (sym (append_assoc so_far.ended (session ∷ []) rest))
          (so_far.ends (session ∷ rest) last (sym ends, subst (λ store. sessions.Expires moment store rest last) left rest_ends));
      told = λ from done ran.
          let behind = subst (λ n. Runs moving (world_of now noted_now) (all_told (end_events session) n) (world_of after noted_after)) so_far.stays.listeners told in
          subst (λ all. IsRun moving from all (world_of after noted_after))
          (append_assoc done (ends_told so_far.ended (length before.listeners)) (all_told (end_events session) (length before.listeners))
          ∙ ap (λ more. done ++ more) (sym (told_more so_far.ended session (length before.listeners))))
          (behind from (done ++ ends_told so_far.ended (length before.listeners)) (so_far.told from done ran));
      stays = record {
        content = stays.content ∙ so_far.stays.content;
        policy = stays.policy ∙ so_far.stays.policy;
        users = stays.users ∙ so_far.stays.users;
        servlets = stays.servlets ∙ so_far.stays.servlets;
        filters = stays.filters ∙ so_far.stays.filters;
        listeners = stays.listeners ∙ so_far.stays.listeners;
        initialised = stays.initialised ∙ so_far.stays.initialised;
      };
      standings = standings ∙ so_far.standings;
    }

    -- No more session ends.
    pub all_expired : None ≡ expiring moment now.store → Expires moving moment before noted now noted_now
    all_expired none = record {
      ended = so_far.ended;
      ends = subst (λ all. sessions.Expires moment before.store all now.store) (append-nil so_far.ended) (so_far.ends [] now.store (sym none, refl));
      told = so_far.told;
      stays = so_far.stays;
      standings = so_far.standings;
    }

  -- One more session ends, and the listeners were notified of it.
  pub one_more_told : (moment : ℕ) (before : ContextState S F L) (noted : JournalState) (content : Content) (policy : Standing) (users : List User)
      (live live_after : LiveState S F L) (store store_after : Store) (noted_now noted_after : JournalState)
      → SoFar moment before noted (context_of content policy users live store) noted_now → AreComponentsOf content live
      → (session : EndedSession) → Some session ≡ expiring moment store → store_after ≡ left_by_expiry moment store
      → Runs moving (live_world live noted_now) (all_told (end_events session) (length live.parts.listeners.items)) (live_world live_after noted_after)
      → StandsAsBefore live live_after
      → SoFar moment before noted (context_of content policy users live_after store_after) noted_after
  one_more_told moment before noted content policy users live live_after store store_after noted_now noted_after so_far components session ends left made stands =
      one_more moment before noted (context_of content policy users live store) noted_now so_far session (context_of content policy users live_after store_after) noted_after ends left
      (subst (λ world. Runs moving world (all_told (end_events session) (length live.parts.listeners.items)) (world_of (context_of content policy users live_after store_after) noted_after))
      (world_same content policy users live store noted_now components)
      (subst (λ world. Runs moving (live_world live noted_now) (all_told (end_events session) (length live.parts.listeners.items)) world)
      (world_same content policy users live_after store_after noted_after (components_stay content live live_after components stands)) made))
      (record { content = refl; policy = refl; users = refl; servlets = stands.counts.servlets; filters = stands.counts.filters; listeners = stands.counts.listeners; initialised = stands.initialised })
      stands.standings
