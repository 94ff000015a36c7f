-- The first session to end, and repeated expiry.
use Rattle.std.proofs.Common.{◌≡◌, ℕ, ◌+◌, Bool, true, false, not, ◌&&◌, ◌||◌, eqb, ltb, inl, inr, List, [], ◌∷◌, map, Option, Some, None, refl, sym, ◌∙◌, ap, subst, arith}
use Rattle.std.specs.List.{filter, find, fold, list_any}
use Rattle.std.specs.Option.{option_map}
use Rattle.std.proofs.lemmas.Bool.{both_ways, cases_Bool, or_parts}
use Rattle.std.proofs.lemmas.Bool.Decides.{nat_tests}
use Rattle.std.proofs.lemmas.Option.{none-some, same_Some}
use Rattle.sv_session.specs.declared.ended_sessions.EndedSession.{EndedSession}
use Rattle.sv_session.specs.Calls.{ended, ending, expiring, left_by_expiry, without}
use Rattle.sv_session.specs.Expiry.{HasNoneExpired, by_deadline, earlier, ends_before, expired, has_expired, unexpired}
use Rattle.sv_session.specs.Lists.{without_first}
use Rattle.sv_session.specs.Runs.{Expires}
use Rattle.sv_session.specs.Store.{IsOrderly, NumbersRise, Session, Store, is_numbered}
use Rattle.sv_session.proofs.OrderLemmas.{IsIn, filter_same, filter_without, find_in, in_filter, is_another, is_itself, rise_filter, rise_without}

-- ---- the order of ends
chain : (da na db nb dc nc : ℕ) → (ltb db da || (eqb db da && ltb nb na)) ≡ true → (ltb dc db || (eqb dc db && ltb nc nb)) ≡ true
    → (ltb dc da || (eqb dc da && ltb nc na)) ≡ true
chain da na db nb dc nc h k = grind (arith, nat_tests)

chain_not : (da na db nb dc nc : ℕ) → (ltb db da || (eqb db da && ltb nb na)) ≡ false → (ltb dc db || (eqb dc db && ltb nc nb)) ≡ false
    → (ltb dc da || (eqb dc da && ltb nc na)) ≡ false
chain_not da na db nb dc nc h k = grind (arith, nat_tests)

module _ (interval : ℕ) where
  before_chain : (a b c : Session) → ends_before interval b a ≡ true → ends_before interval c b ≡ true → ends_before interval c a ≡ true
  before_chain a b c =
      chain (a.last_access + interval) a.number (b.last_access + interval) b.number (c.last_access + interval) c.number

  pub before_chain_not : (a b c : Session) → ends_before interval b a ≡ false → ends_before interval c b ≡ false → ends_before interval c a ≡ false
  before_chain_not a b c =
      chain_not (a.last_access + interval) a.number (b.last_access + interval) b.number (c.last_access + interval) c.number

  earlier_groups : (a b c : Session) → earlier interval (earlier interval a b) c ≡ earlier interval a (earlier interval b c)
  earlier_groups a b c = elim (cases_Bool (ends_before interval b a)) [
    | inl ba ↦ elim (cases_Bool (ends_before interval c b)) [
      | inl cb ↦ rw (ba, cb, before_chain a b c ba cb) refl
      | inr cb ↦ rw (ba, cb, ba) refl
    ]
    | inr ba ↦ elim (cases_Bool (ends_before interval c b)) [
      | inl cb ↦ rw (ba, cb) refl
      | inr cb ↦ rw (ba, cb, before_chain_not a b c ba cb, ba) refl
    ]
  ]

  first_of_more : (a x : Session) (xs : List Session) → fold (earlier interval) (earlier interval a x) xs ≡ earlier interval a (fold (earlier interval) x xs)
  first_of_more a x [] = refl
  first_of_more a x (y ∷ ys) =
      ap (λ s. fold (earlier interval) s ys) (earlier_groups a x y) ∙ first_of_more a (earlier interval x y) ys

  earlier_in : (a x session : Session) (xs : List Session) → IsIn session (earlier interval a x ∷ xs) → IsIn session (a ∷ x ∷ xs)
  earlier_in a x session xs here = elim (cases_Bool (ends_before interval x a)) [
    | inl xa ↦ elim (rw xa at here) [ inl same ↦ inr (inl same) | inr later ↦ inr (inr later) ]
    | inr xa ↦ elim (rw xa at here) [ inl same ↦ inl same | inr later ↦ inr (inr later) ]
  ]

  pub first_in : (x : Session) (xs : List Session) → IsIn (fold (earlier interval) x xs) (x ∷ xs)
  first_in x [] = inl refl
  first_in x (y ∷ ys) = earlier_in x y (fold (earlier interval) (earlier interval x y) ys) ys (first_in (earlier interval x y) ys)

  -- The first session to end is the head of the order, before the others.
  abbrev LeadsAll : Session → List Session → Type 0
  LeadsAll session sessions = by_deadline interval sessions ≡ session ∷ by_deadline interval (without_first (is_numbered session.number) sessions)

  leads_one : (x : Session) → LeadsAll x (x ∷ [])
  leads_one x = rw (is_itself x x refl) refl

  leads_more : (low high : ℕ) (x session : Session) (xs : List Session) → NumbersRise low high (x ∷ xs) → IsIn session xs → LeadsAll session xs
      → LeadsAll (earlier interval x session) (x ∷ xs)
  leads_more low high x session xs rises here leads = elim (cases_Bool (ends_before interval session x)) [
    | inl before ↦
        let chosen : earlier interval x session ≡ session = rw before refl in
        subst (λ s. LeadsAll s (x ∷ xs)) (sym chosen) (rw (is_another x session high xs rises.1 here, leads, before) refl)
    | inr behind ↦
        let chosen : earlier interval x session ≡ x = rw behind refl in
        subst (λ s. LeadsAll s (x ∷ xs)) (sym chosen) (rw (is_itself x x refl, leads, behind) refl)
  ]

  pub first_leads : (low high : ℕ) (x : Session) (xs : List Session) → NumbersRise low high (x ∷ xs) → LeadsAll (fold (earlier interval) x xs) (x ∷ xs)
  first_leads low high x [] rises = leads_one x
  first_leads low high x (y ∷ ys) rises =
      subst (λ session. LeadsAll session (x ∷ y ∷ ys)) (sym (first_of_more x y ys))
      (leads_more low high x (fold (earlier interval) y ys) (y ∷ ys) rises (first_in y ys) (first_leads x.number high y ys rises.1))

-- ---- no session has expired
pub none_passes : (test : Session → Bool) (sessions : List Session) → list_any test sessions ≡ false → filter test sessions ≡ []
none_passes test [] none = refl
none_passes test (x ∷ xs) none = let parts = or_parts (test x) (list_any test xs) none in rw parts.0 (none_passes test xs parts.1)

pub all_are_kept : (test : Session → Bool) (sessions : List Session) → list_any test sessions ≡ false → filter (λ s. not (test s)) sessions ≡ sessions
all_are_kept test [] none = refl
all_are_kept test (x ∷ xs) none =
    let parts = or_parts (test x) (list_any test xs) none in rw parts.0 (ap (λ rest. x ∷ rest) (all_are_kept test xs parts.1))

none_kept : (test : Session → Bool) (sessions : List Session) → filter test sessions ≡ [] → list_any test sessions ≡ false
none_kept test [] none = refl
none_kept test (x ∷ xs) none = elim (cases_Bool (test x)) [
  | inl passes ↦ let more : x ∷ filter test xs ≡ [] = rw passes at none in cc
  | inr fails ↦ rw fails (none_kept test xs (rw fails at none))
]

find_none : (sessions : List Session) (session : Session) → IsIn session sessions → find (is_numbered session.number) sessions ≡ None → ⊥
find_none [] session here none = here
find_none (x ∷ xs) session here none = elim (cases_Bool (is_numbered session.number x)) [
  | inl passes ↦ none-some x (sym (rw passes at none))
  | inr fails ↦ elim here [
    | inl same ↦ both_ways (is_numbered session.number x) fails (is_itself x session same)
    | inr later ↦ find_none xs session later (rw fails at none)
  ]
]

-- If a session has expired, one ends.
ends_some : (now : ℕ) (store : Store) (x : Session) (xs : List Session) → expired now store ≡ x ∷ xs → expiring now store ≡ None → ⊥
ends_some now store x xs some none =
    let first = fold (earlier store.interval) x xs in
    let here : IsIn first store.sessions =
    (in_filter (has_expired store.interval now) store.sessions first (subst (λ all. IsIn first all) (sym some) (first_in store.interval x xs))).0 in
    let none_ends : ending first.number store ≡ None = rw some at none in
    by_find (find (is_numbered first.number) store.sessions) refl none_ends here
  where
    by_find : (found : Option Session) → find (is_numbered (fold (earlier store.interval) x xs).number) store.sessions ≡ found
        → option_map ended (find (is_numbered (fold (earlier store.interval) x xs).number) store.sessions) ≡ None
        → IsIn (fold (earlier store.interval) x xs) store.sessions → ⊥
    by_find None is none here = find_none store.sessions (fold (earlier store.interval) x xs) here is
    by_find (Some session) is none here = none-some (ended session) (sym (rw is at none))

pub none_where_none : (now : ℕ) (store : Store) → expiring now store ≡ None → HasNoneExpired now store
none_where_none now store none = by_list (expired now store) refl
  where
    by_list : (all : List Session) → expired now store ≡ all → HasNoneExpired now store
    by_list [] is = none_kept (has_expired store.interval now) store.sessions is
    by_list (x ∷ xs) is = absurd (ends_some now store x xs is none)

pub none_from_none : (now : ℕ) (store : Store) → HasNoneExpired now store → expiring now store ≡ None
none_from_none now store none = rw (none_passes (has_expired store.interval now) store.sessions none) refl

-- ---- one after another
-- The effect of `expire` if the list of expired sessions is not empty.
ends_first : (now : ℕ) (store : Store) (x : Session) (xs : List Session) → IsOrderly store → expired now store ≡ x ∷ xs
    → expiring now store ≡ Some (ended (fold (earlier store.interval) x xs))
ends_first now store x xs orderly some =
    let first = fold (earlier store.interval) x xs in
    let here : IsIn first store.sessions =
    (in_filter (has_expired store.interval now) store.sessions first (subst (λ all. IsIn first all) (sym some) (first_in store.interval x xs))).0 in
    rw (some, find_in 0 store.serial store.sessions first orderly here) refl

leaves_others : (now : ℕ) (store : Store) (x : Session) (xs : List Session) → expired now store ≡ x ∷ xs
    → left_by_expiry now store ≡ without (fold (earlier store.interval) x xs).number store
leaves_others now store x xs some = rw some refl

-- The expired and unexpired sessions after one of the expired has ended.
expired_of_rest : (now : ℕ) (store : Store) (session : Session) → IsOrderly store → IsIn session (expired now store)
    → (expired now (without session.number store) ≡ without_first (is_numbered session.number) (expired now store))
    × (unexpired now (without session.number store) ≡ unexpired now store)
expired_of_rest now store session orderly here =
    let inside = in_filter (has_expired store.interval now) store.sessions session here in (
      filter_without (has_expired store.interval now) 0 store.serial store.sessions session orderly inside.0 inside.1,
      filter_same (λ s. not (has_expired store.interval now s)) 0 store.serial store.sessions session orderly inside.0 (ap not inside.1),
    )

pub ends_all : (now : ℕ) (sessions : List EndedSession) (before after : Store) → IsOrderly before → Expires now before sessions after
    → (sessions ≡ map ended (by_deadline before.interval (expired now before))) × (after ≡ record before { sessions = unexpired now before })
ends_all now [] before after orderly runs =
    let none = none_where_none now before runs.0 in (
      rw (none_passes (has_expired before.interval now) before.sessions none) refl,
      rw (all_are_kept (has_expired before.interval now) before.sessions none) runs.1,
    )
ends_all now (session ∷ sessions) before after orderly runs = by_list (λ rest. ends_all now sessions rest after) (expired now before) refl
  where
    by_list : ((rest : Store) → IsOrderly rest → Expires now rest sessions after
        → (sessions ≡ map ended (by_deadline rest.interval (expired now rest))) × (after ≡ record rest { sessions = unexpired now rest }))
        → (all : List Session) → expired now before ≡ all
        → (session ∷ sessions ≡ map ended (by_deadline before.interval (expired now before))) × (after ≡ record before { sessions = unexpired now before })
    by_list again [] is = absurd (none-some session (sym (none_from_none now before (none_kept (has_expired before.interval now) before.sessions is)) ∙ runs.0))
    by_list again (x ∷ xs) is =
        let first = fold (earlier before.interval) x xs in
        let said : ended first ≡ session = same_Some (ended first) session (sym (ends_first now before x xs orderly is) ∙ runs.0) in
        let rest = subst (λ store. Expires now store sessions after) (leaves_others now before x xs is) runs.1 in
        let more = again (without first.number before) (rise_without (is_numbered first.number) 0 before.serial before.sessions orderly) rest in
        let here : IsIn first (expired now before) = subst (λ all. IsIn first all) (sym is) (first_in before.interval x xs) in
        let split = expired_of_rest now before first orderly here in
        let rises : NumbersRise 0 before.serial (expired now before) = rise_filter (has_expired before.interval now) 0 before.serial before.sessions orderly in
        let leads : by_deadline before.interval (expired now before) ≡ first ∷ by_deadline before.interval (without_first (is_numbered first.number) (expired now before)) =
        rw is (first_leads before.interval 0 before.serial x xs (rw is at rises)) in (
          rw leads (rw (said, ← split.0) (ap (λ others. session ∷ others) more.0)),
          more.1 ∙ ap (λ kept. record before { sessions = kept }) split.1,
        )

pub ends_none_again : (now : ℕ) (sessions : List EndedSession) (before after : Store) → Expires now before sessions after → expiring now after ≡ None
ends_none_again now [] before after runs = ap (expiring now) runs.1 ∙ runs.0
ends_none_again now (session ∷ sessions) before after runs = ends_none_again now sessions (left_by_expiry now before) after runs.1
