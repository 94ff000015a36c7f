-- The record that is judged first, compared with the expired sessions.
use Rattle.std.proofs.Common.{◌≡◌, ◌≢◌, ℕ, zero, suc, ◌+◌, ◌-◌, ◌<◌, Bool, true, false, ◌&&◌, ◌||◌, eqb, ltb, leb, inl, inr, List, [], ◌∷◌, map, min, None, Some, refl, sym, ◌∙◌, ap, subst, arith}
use Rattle.std.specs.List.{filter, fold, reduce, slice_get}
use Rattle.std.specs.Option.{option_map}
use Rattle.std.proofs.lemmas.Bool.{cases_Bool}
use Rattle.std.proofs.lemmas.Bool.Decides.{nat_tests}
use Rattle.std.proofs.lemmas.Option.{none-some, same_Some}
use Rattle.sv_session.specs.declared.due.Due.{Due}
use Rattle.sv_session.specs.Order.{IsFirst, NoneWaits, Waiting, Waits, has_waited, is_before}
use Rattle.sv_session.specs.declared.slot.Slot.{Slot}
use Rattle.sv_session.specs.Expiry.{earlier, ends_before, has_expired}
use Rattle.sv_session.specs.declared.ids.Ids.{Ids}
use Rattle.sv_session.specs.Calls.{ending, expired_number, expiring, judged_among, judged_by_expiry, left_by_expiry, without}
use Rattle.sv_session.specs.Slots.{AreKept, due_of, living}
use Rattle.sv_session.specs.Store.{Session, Store}
use Rattle.sv_session.proofs.ExpiryLemmas.{before_chain_not, first_in}
use Rattle.sv_session.proofs.OrderLemmas.{IsIn, in_filter}

-- The first record has waited for the interval, or no record has.
abbrev pub HasWaited : ℕ → ℕ → Waiting → Due → Type 0
HasWaited interval now places due = IsFirst places due × (has_waited interval now due ≡ true)

abbrev pub NoneHasWaited : ℕ → ℕ → Waiting → Type 0
NoneHasWaited interval now places = (due : Due) → Waits places due → has_waited interval now due ≡ false

waits_longer : (interval now d n e m : ℕ) → (ltb e d || (eqb e d && ltb m n)) ≡ false → (ltb 0 interval && leb interval (now - d)) ≡ false
    → (ltb 0 interval && leb interval (now - e)) ≡ false
waits_longer interval now d n e m behind waits = grind (arith, nat_tests)

none_behind : (interval now : ℕ) (places : Waiting) (due : Due) → IsFirst places due → has_waited interval now due ≡ false → NoneHasWaited interval now places
none_behind interval now places due first waits other there =
    waits_longer interval now due.last_access due.number other.last_access other.number (first.1 other there) waits

abbrev due_at : Session → Due
due_at session = record { last_access = session.last_access; number = session.number }

-- ---- sessions and their records
session_waits : (slots : List Slot) (session : Session) → IsIn session (living slots) → Waits (map due_of slots) (due_at session)
session_waits [] session here = absurd here
session_waits (x ∷ xs) session here = elim (cases_Bool x.live) [
  | inr dead ↦ let more = session_waits xs session (rw dead at here) in (suc more.0, more.1)
  | inl lives ↦ elim (rw lives at here) [
    | inl same ↦ (0, rw lives (ap (λ s. Some (Some (due_at s))) same))
    | inr later ↦ let more = session_waits xs session later in (suc more.0, more.1)
  ]
]

waits_session : (slots : List Slot) (due : Due) (place : ℕ) → slice_get (map due_of slots) place ≡ Some (Some due)
    → (session : Session) × IsIn session (living slots) × (due_at session ≡ due)
waits_session [] due place is = absurd (none-some (Some due) is)
waits_session (x ∷ xs) due zero is = elim (cases_Bool x.live) [
  | inr dead ↦ let none : None ≡ Some due = same_Some None (Some due) (rw dead at is) in absurd (none-some due none)
  | inl lives ↦
      let same : Some (due_at x.kept) ≡ Some due = same_Some (Some (due_at x.kept)) (Some due) (rw lives at is) in
      (x.kept, rw lives (inl refl), same_Some (due_at x.kept) due same)
]
waits_session (x ∷ xs) due (suc place) is =
    let more = waits_session xs due place is in
    elim (cases_Bool x.live) [
      | inr dead ↦ (more.0, rw dead more.1, more.2)
      | inl lives ↦ (more.0, rw lives (inr more.1), more.2)
    ]

-- ---- none has expired
pub unexpired : (interval now : ℕ) (slots : List Slot) → NoneHasWaited interval now (map due_of slots) → filter (has_expired interval now) (living slots) ≡ []
unexpired interval now [] none = refl
unexpired interval now (x ∷ xs) none =
    let more = unexpired interval now xs (λ due waits. none due (suc waits.0, waits.1)) in
    elim (cases_Bool x.live) [
      | inr dead ↦ rw dead more
      | inl lives ↦
          let fails : has_expired interval now x.kept ≡ false = none (due_at x.kept) (0, rw lives refl) in
          rw (lives, fails) more
    ]

-- ---- the first expired session
to_filter : (test : Session → Bool) (sessions : List Session) (session : Session) → IsIn session sessions → test session ≡ true → IsIn session (filter test sessions)
to_filter test [] session here passes = here
to_filter test (x ∷ xs) session here passes = elim (cases_Bool (test x)) [
  | inl kept ↦ elim here [ inl same ↦ rw kept (inl same) | inr later ↦ rw kept (inr (to_filter test xs session later passes)) ]
  | inr left ↦ elim here [
    | inl same ↦ let wrong : false ≡ true = sym left ∙ (ap test same ∙ passes) in cc
    | inr later ↦ rw left (to_filter test xs session later passes)
  ]
]

not_itself : (d n : ℕ) → (ltb d d || (eqb d d && ltb n n)) ≡ false
not_itself d n = grind (arith, nat_tests)

not_both : (da na db nb : ℕ) → (ltb db da || (eqb db da && ltb nb na)) ≡ true → (ltb da db || (eqb da db && ltb na nb)) ≡ false
not_both da na db nb before = grind (arith, nat_tests)

one_number : (i la na lb nb : ℕ) → (ltb la lb || (eqb la lb && ltb na nb)) ≡ false
    → (ltb (lb + i) (la + i) || (eqb (lb + i) (la + i) && ltb nb na)) ≡ false → na ≡ nb
one_number i la na lb nb h k = grind (arith, nat_tests)

module _ (interval : ℕ) where
  itself : (a : Session) → ends_before interval a a ≡ false
  itself a = not_itself (a.last_access + interval) a.number

  behind_left : (a y : Session) → ends_before interval a (earlier interval a y) ≡ false
  behind_left a y = elim (cases_Bool (ends_before interval y a)) [
    | inl before ↦ rw before (not_both (a.last_access + interval) a.number (y.last_access + interval) y.number before)
    | inr behind ↦ rw behind (itself a)
  ]

  behind_right : (a y : Session) → ends_before interval y (earlier interval a y) ≡ false
  behind_right a y = elim (cases_Bool (ends_before interval y a)) [
    | inl before ↦ rw before (itself y)
    | inr behind ↦ rw behind behind
  ]

  behind_first : (a : Session) (xs : List Session) (session : Session) → IsIn session (a ∷ xs) → ends_before interval session (fold (earlier interval) a xs) ≡ false
  behind_first a [] session here = elim here [
    | inl same ↦ subst (λ s. ends_before interval s a ≡ false) same (itself a)
    | inr never ↦ absurd never
  ]
  behind_first a (y ∷ ys) session here =
      let one = earlier interval a y in
      let first = fold (earlier interval) one ys in
      let least : ends_before interval one first ≡ false = behind_first one ys one (inl refl) in
      elim here [
        | inl same ↦ before_chain_not interval first one session least (subst (λ s. ends_before interval s one ≡ false) same (behind_left a y))
        | inr later ↦ elim later [
          | inl same ↦ before_chain_not interval first one session least (subst (λ s. ends_before interval s one ≡ false) same (behind_right a y))
          | inr rest ↦ behind_first one ys session (inr rest)
        ]
      ]

module _ (interval now : ℕ) (slots : List Slot) (due : Due) (waited : HasWaited interval now (map due_of slots) due) where
  abbrev gone : List Session
  gone = filter (has_expired interval now) (living slots)

  by_list : (session : Session) → due_at session ≡ due → (all : List Session) → gone ≡ all → IsIn session all
      → option_map (λ (s : Session). s.number) (reduce (earlier interval) all) ≡ Some due.number
  by_list session is [] all here = absurd here
  by_list session is (x ∷ xs) all here =
      let first = fold (earlier interval) x xs in
      let inside = (in_filter (has_expired interval now) (living slots) first (subst (IsIn first) (sym all) (first_in interval x xs))).0 in
      let not_before : is_before (due_at first) (due_at session) ≡ false =
      subst (λ d. is_before (due_at first) d ≡ false) (sym is) (waited.0.1 (due_at first) (session_waits slots first inside)) in
      let same : first.number ≡ session.number = one_number interval first.last_access first.number session.last_access session.number not_before (behind_first interval x xs session here) in
      ap Some (same ∙ ap (λ (d : Due). d.number) is)

  pub first_expired : option_map (λ (s : Session). s.number) (reduce (earlier interval) gone) ≡ Some due.number
  first_expired =
      let at = waits_session slots due waited.0.0.0 waited.0.0.1 in
      let passes : has_expired interval now at.0 ≡ true = subst (λ d. has_waited interval now d ≡ true) (sym at.2) waited.1 in
      by_list at.0 at.2 gone refl (to_filter (has_expired interval now) (living slots) at.0 at.1 passes)

-- ---- the result of `expire`
module _ (limit interval serial count : ℕ) (slots : List Slot) (ids : Ids) (queue : Waiting) (store : Store)
    (view : record { limit = limit; interval = interval; serial = serial; sessions = living slots } ≡ store) (kept : AreKept serial count slots ids queue) (now : ℕ) where
  abbrev seen : Store
  seen = record { limit = limit; interval = interval; serial = serial; sessions = living slots }

  none_number : NoneHasWaited interval now queue → expired_number now seen ≡ None
  none_number none =
      ap (λ all. option_map (λ (s : Session). s.number) (reduce (earlier interval) all))
      (unexpired interval now slots (subst (NoneHasWaited interval now) kept.wait none))

  none_ends : NoneHasWaited interval now queue → None ≡ expiring now store
  none_ends none = subst (λ s. None ≡ expiring now s) view (rw (none_number none) refl)

  all_stay : NoneHasWaited interval now queue → store ≡ left_by_expiry now store
  all_stay none = subst (λ s. s ≡ left_by_expiry now s) view (rw (none_number none) refl)

  -- The queue is empty.
  module _ (none : NoneWaits queue) where
    none_has : NoneHasWaited interval now queue
    none_has due waits = absurd (none due waits)

    pub none_ended : None ≡ expiring now store
    none_ended = none_ends none_has

    pub none_left : store ≡ left_by_expiry now store
    none_left = all_stay none_has

    pub none_judged : (judged : ℕ) → judged ≡ judged_by_expiry store judged
    none_judged judged = subst (λ s. judged ≡ judged_by_expiry s judged) view (by_list (living slots) (session_waits slots))
      where
        by_list : (sessions : List Session) → ((session : Session) → IsIn session sessions → Waits (map due_of slots) (due_at session)) → judged ≡ judged_among sessions judged
        by_list [] waits = refl
        by_list (x ∷ xs) waits = absurd (none (due_at x) (subst (λ places. Waits places (due_at x)) (sym kept.wait) (waits x (inl refl))))

  -- The first record.
  module _ (due : Due) (first : IsFirst queue due) where
    pub one_judged : (judged more : ℕ) → more ≡ min (judged + 1) 18446744073709551615 → more ≡ judged_by_expiry store judged
    one_judged judged more is = subst (λ s. more ≡ judged_by_expiry s judged) view (is ∙ by_list (living slots) at.1)
      where
        at : (session : Session) × IsIn session (living slots) × (due_at session ≡ due)
        at = waits_session slots due first.0.0 (subst (λ places. slice_get places first.0.0 ≡ Some (Some due)) kept.wait first.0.1)

        by_list : (sessions : List Session) → IsIn at.0 sessions → min (judged + 1) 18446744073709551615 ≡ judged_among sessions judged
        by_list [] here = absurd here
        by_list (x ∷ xs) here = refl

    -- It has not waited for the interval.
    module _ (waits : has_waited interval now due ≡ false) where
      pub later_ended : None ≡ expiring now store
      later_ended = none_ends (none_behind interval now queue due first waits)

      pub later_left : store ≡ left_by_expiry now store
      later_left = all_stay (none_behind interval now queue due first waits)

    -- It has waited for the interval.
    module _ (waited : has_waited interval now due ≡ true) where
      one_number_due : expired_number now seen ≡ Some due.number
      one_number_due = first_expired interval now slots due (subst (λ places. HasWaited interval now places due) kept.wait (first, waited))

      pub ends_due : ending due.number store ≡ expiring now store
      ends_due = subst (λ s. ending due.number s ≡ expiring now s) view (rw one_number_due refl)

      pub leaves_rest : without due.number store ≡ left_by_expiry now store
      leaves_rest = subst (λ s. without due.number s ≡ left_by_expiry now s) view (rw one_number_due refl)

-- ---- the law of the count
pub judged_once : (judged : ℕ) (sessions : List Session)
    → (sessions ≡ [] → judged_among sessions judged ≡ judged)
    × (sessions ≢ [] → judged < 18446744073709551615 → judged_among sessions judged ≡ judged + 1)
    × (judged ≡ 18446744073709551615 → judged_among sessions judged ≡ judged)
judged_once judged [] = (λ _. refl, λ some less. absurd (some refl), λ _. refl)
judged_once judged (x ∷ xs) = (λ none. cc, λ some less. omega (arith, less), λ greatest. omega (arith, greatest))
