-- The invariant of the stored sessions after each call: serial, count, slots, ids and queue.
use Rattle.std.proofs.Common.{◌≡◌, ◌≢◌, ℕ, zero, suc, ◌+◌, ◌≤◌, Bool, true, false, cond, inl, inr, List, [], ◌∷◌, ◌++◌, length, map, set, get_or, Option, None, Some, refl, sym, ◌∙◌, ap, subst, min, arith}
use Rattle.std.specs.List.{filter, find, fold, reduce}
use Rattle.std.specs.Option.{option_map}
use Rattle.std.specs.Str.{bytes_eq}
use Rattle.std.proofs.lemmas.Bool.{cases_Bool, cond-false, cond-true, eqb-true}
use Rattle.std.proofs.lemmas.Option.{none-some, same_Some}
use Rattle.std.proofs.lemmas.Slice.Eq.{bytes_eq-Decides}
use Rattle.sv_session.specs.declared.due.Due.{Due}
use Rattle.sv_session.specs.Order.{Waiting}
use Rattle.sv_session.specs.declared.ids.Ids.{Ids}
use Rattle.sv_session.specs.declared.slot.Slot.{Slot}
use Rattle.sv_session.specs.declared.limits.TheConstants.{GREATEST_SERIAL}
use Rattle.sv_session.specs.Calls.{least_number, session_opened}
use Rattle.sv_session.specs.Id.{id_text}
use Rattle.sv_session.specs.Ids.{IdsDiffer, NoneHas, number_in}
use Rattle.sv_session.specs.Lists.{on_first, without_first}
use Rattle.sv_session.specs.Slots.{AreKept, SlotsRise, due_of, living, number_among}
use Rattle.sv_session.specs.Store.{IsOrderly, NumbersRise, Session, Store, has_id, is_numbered}
use Rattle.sv_session.proofs.LiveIdLemmas.{another, differ_above, differ_kept, differ_left, differ_opened, differ_renamed, found_has, new_id}
use Rattle.sv_session.proofs.OrderLemmas.{rise_below}
use Rattle.sv_session.proofs.SlotLemmas.{IsAt}

-- ---- the numbers of the slots
rise_set : (low high : ℕ) (slots : List Slot) (k : ℕ) (slot new : Slot) → slot ≡ get_or slots k slot → new.kept.number ≡ slot.kept.number
    → SlotsRise low high slots → SlotsRise low high (set slots k new)
rise_set low high [] k slot new is same rise = rise
rise_set low high (x ∷ xs) zero slot new is same rise =
    let equal : new.kept.number ≡ x.kept.number = same ∙ ap (λ (s : Slot). s.kept.number) is in
    (omega (arith, equal, rise.0), subst (λ n. SlotsRise n high xs) (sym equal) rise.1)
rise_set low high (x ∷ xs) (suc k) slot new is same rise = (rise.0, rise_set x.kept.number high xs k slot new is same rise.1)

pub slots_below : (low mid high : ℕ) (slots : List Slot) → low ≤ mid → SlotsRise mid high slots → SlotsRise low high slots
slots_below low mid high [] less rise = omega (arith, less, rise)
slots_below low mid high (x ∷ xs) less rise = (omega (arith, less, rise.0), rise.1)

slots_above : (low high higher : ℕ) (slots : List Slot) → high ≤ higher → SlotsRise low high slots → SlotsRise low higher slots
slots_above low high higher [] more rise = omega (arith, more, rise)
slots_above low high higher (x ∷ xs) more rise = (rise.0, slots_above x.kept.number high higher xs more rise.1)

rise_more : (low high : ℕ) (slots : List Slot) (new : Slot) → new.kept.number ≡ high + 1 → SlotsRise low high slots
    → SlotsRise low (high + 1) (slots ++ new ∷ [])
rise_more low high [] new next rise = (omega (arith, next, rise), omega (arith, next))
rise_more low high (x ∷ xs) new next rise = (rise.0, rise_more x.kept.number high xs new next rise.1)

-- ---- the queue
waits_set : (slots : List Slot) (k : ℕ) (new : Slot) → map due_of (set slots k new) ≡ set (map due_of slots) k (due_of new)
waits_set [] k new = refl
waits_set (x ∷ xs) zero new = refl
waits_set (x ∷ xs) (suc k) new = ap (λ rest. due_of x ∷ rest) (waits_set xs k new)

waits_same : (slots : List Slot) (k : ℕ) (slot : Slot) → slot ≡ get_or slots k slot → map due_of slots ≡ set (map due_of slots) k (due_of slot)
waits_same [] k slot is = refl
waits_same (x ∷ xs) zero slot is = ap (λ s. due_of s ∷ map due_of xs) (sym is)
waits_same (x ∷ xs) (suc k) slot is = ap (λ rest. due_of x ∷ rest) (waits_same xs k slot is)

pub waits_more : (slots : List Slot) (new : Slot) → map due_of (slots ++ new ∷ []) ≡ map due_of slots ++ due_of new ∷ []
waits_more [] new = refl
waits_more (x ∷ xs) new = ap (λ rest. due_of x ∷ rest) (waits_more xs new)

-- ---- the ids
among_changed : (test : Session → Bool) (f : Session → Session) → ((s : Session) → (f s).id ≡ s.id) → ((s : Session) → (f s).number ≡ s.number)
    → (sessions : List Session) (id : List ℕ) → number_among (on_first test f sessions) id ≡ number_among sessions id
among_changed test f ids numbers [] id = refl
among_changed test f ids numbers (x ∷ xs) id = elim (cases_Bool (test x)) [
  | inl passes ↦ elim (cases_Bool (has_id id x)) [
    | inl has ↦ rw (passes, ids x, has, numbers x) refl
    | inr other ↦ rw (passes, ids x, other) refl
  ]
  | inr fails ↦ elim (cases_Bool (has_id id x)) [
    | inl has ↦ rw (fails, has) refl
    | inr other ↦ rw (fails, other) (among_changed test f ids numbers xs id)
  ]
]

-- If no session has an id, none has an equal one.
pub none_found : (id other : List ℕ) (sessions : List Session) → NoneHas id sessions → bytes_eq id other ≡ true → number_among sessions other ≡ None
none_found id other [] none same = refl
none_found id other (x ∷ xs) none same =
    let equal : id ≡ other = (bytes_eq-Decides id other).0 same in
    rw (another x.id other (λ e. none.0 (e ∙ sym equal))) (none_found id other xs none.1 same)

apart_ids : (a b id : List ℕ) → a ≢ b → bytes_eq a id ≡ true → bytes_eq b id ≡ false
apart_ids a b id differs same = another b id (λ e. differs ((bytes_eq-Decides a id).0 same ∙ sym e))

head_left : (x : Session) (xs : List Session) (id : List ℕ) → NoneHas x.id xs
    → cond (bytes_eq x.id id) None (number_among (x ∷ xs) id) ≡ number_among xs id
head_left x xs id none = elim (cases_Bool (bytes_eq x.id id)) [
  | inl has ↦ rw has (sym (none_found x.id id xs none has))
  | inr other ↦ rw other refl
]

among_left : (bound number : ℕ) (sessions : List Session) (session : Session) (id : List ℕ) → IdsDiffer bound sessions
    → find (is_numbered number) sessions ≡ Some session
    → cond (bytes_eq session.id id) None (number_among sessions id) ≡ number_among (without_first (is_numbered number) sessions) id
among_left bound number [] session id differ found = absurd (none-some session found)
among_left bound number (x ∷ xs) session id differ found = elim (cases_Bool (is_numbered number x)) [
  | inl passes ↦
      let same : x ≡ session = same_Some x session (rw passes at found) in
      rw passes (subst (λ (s : Session). cond (bytes_eq s.id id) None (number_among (x ∷ xs) id) ≡ number_among xs id) same (head_left x xs id differ.1))
  | inr fails ↦
      let later : find (is_numbered number) xs ≡ Some session = rw fails at found in
      let differs : session.id ≢ x.id = found_has number x.id xs session later differ.1 in
      elim (cases_Bool (bytes_eq x.id id)) [
        | inl has ↦ rw (fails, has, apart_ids x.id session.id id (λ e. differs (sym e)) has) refl
        | inr other ↦ rw (fails, other) (among_left bound number xs session id differ.2 later)
      ]
]

pub among_more : (new : Session) (sessions : List Session) (id : List ℕ) → NoneHas new.id sessions
    → cond (bytes_eq new.id id) (Some new.number) (number_among sessions id) ≡ number_among (sessions ++ new ∷ []) id
among_more new [] id none = elim (cases_Bool (bytes_eq new.id id)) [
  | inl has ↦ rw has refl
  | inr other ↦ rw other refl
]
among_more new (x ∷ xs) id none = elim (cases_Bool (bytes_eq x.id id)) [
  | inl has ↦ rw (has, apart_ids x.id new.id id none.0 has) refl
  | inr other ↦ rw other (among_more new xs id none.1)
]

module _ (bound number : ℕ) (given : List ℕ) where
  abbrev renaming : Session → Session
  renaming session = record session { id = given }

  head_renamed : (x : Session) (xs : List Session) (id : List ℕ) → x.number ≡ number → x.id ≢ given → NoneHas x.id xs
      → cond (bytes_eq x.id id) None (cond (bytes_eq given id) (Some number) (number_among (x ∷ xs) id)) ≡ number_among (renaming x ∷ xs) id
  head_renamed x xs id numbered differs none = elim (cases_Bool (bytes_eq x.id id)) [
    | inl has ↦ rw (has, apart_ids x.id given id differs has) (sym (none_found x.id id xs none has))
    | inr other ↦ elim (cases_Bool (bytes_eq given id)) [
      | inl has ↦ rw (other, has) (ap Some (sym numbered))
      | inr neither ↦ rw (other, neither) refl
    ]
  ]

  among_renamed : (sessions : List Session) (session : Session) (id : List ℕ) → NoneHas given sessions → IdsDiffer bound sessions
      → find (is_numbered number) sessions ≡ Some session
      → cond (bytes_eq session.id id) None (cond (bytes_eq given id) (Some number) (number_among sessions id))
      ≡ number_among (on_first (is_numbered number) renaming sessions) id
  among_renamed [] session id none differ found = absurd (none-some session found)
  among_renamed (x ∷ xs) session id none differ found = elim (cases_Bool (is_numbered number x)) [
    | inl passes ↦
        let same : x ≡ session = same_Some x session (rw passes at found) in
        let numbered : x.number ≡ number = eqb-true x.number number passes in
        rw passes (subst (λ (s : Session). cond (bytes_eq s.id id) None (cond (bytes_eq given id) (Some number) (number_among (x ∷ xs) id))
        ≡ number_among (renaming x ∷ xs) id) same (head_renamed x xs id numbered none.0 differ.1))
    | inr fails ↦
        let later : find (is_numbered number) xs ≡ Some session = rw fails at found in
        let differs : session.id ≢ x.id = found_has number x.id xs session later differ.1 in
        elim (cases_Bool (bytes_eq x.id id)) [
          | inl has ↦ rw (fails, has, apart_ids x.id session.id id (λ e. differs (sym e)) has, apart_ids x.id given id none.0 has) refl
          | inr other ↦ rw (fails, other) (among_renamed xs session id none.1 differ.2 later)
        ]
  ]

-- ---- the count
length_changed : (test : Session → Bool) (f : Session → Session) (sessions : List Session) → length (on_first test f sessions) ≡ length sessions
length_changed test f [] = refl
length_changed test f (x ∷ xs) = elim (cases_Bool (test x)) [
  | inl passes ↦ rw passes refl
  | inr fails ↦ rw fails (ap suc (length_changed test f xs))
]

pub length_left : (number : ℕ) (sessions : List Session) (session : Session) → find (is_numbered number) sessions ≡ Some session
    → length (without_first (is_numbered number) sessions) + 1 ≡ length sessions
length_left number [] session found = absurd (none-some session found)
length_left number (x ∷ xs) session found = elim (cases_Bool (is_numbered number x)) [
  | inl passes ↦ rw passes (omega arith)
  | inr fails ↦ let more = length_left number xs session (rw fails at found) in rw fails (omega (arith, more))
]

-- ---- calls at the index of a session
module _ (serial count number k : ℕ) (slots : List Slot) (ids : Ids) (queue : Waiting) (slot : Slot) (kept : AreKept serial count slots ids queue)
    (is : slot ≡ get_or slots k slot) (at : IsAt number slots k slot) where
  -- A change that keeps the number and the id.
  pub kept_changed : (f : Session → Session) → ((s : Session) → (f s).number ≡ s.number) → ((s : Session) → (f s).id ≡ s.id) → (new : Session) → new ≡ f slot.kept
      → (after : Waiting) → after ≡ set queue k (due_of (record { live = slot.live; kept = f slot.kept }))
      → AreKept serial count (set slots k (record { live = slot.live; kept = new })) ids after
  kept_changed f numbers same new is_new after waits =
      subst (λ s. AreKept serial count (set slots k (record { live = slot.live; kept = s })) ids after) (sym is_new)
      (record {
        fits = kept.fits;
        rise = rise_set 0 serial slots k slot (record { live = slot.live; kept = f slot.kept }) is (numbers slot.kept) kept.rise;
        differ = subst (IdsDiffer serial) (sym (at.changes f)) (differ_kept serial (is_numbered number) f same (living slots) kept.differ);
        named = λ id. kept.named id ∙ (sym (among_changed (is_numbered number) f same numbers (living slots) id) ∙ ap (λ all. number_among all id) (sym (at.changes f)));
        wait = waits ∙ (ap (λ places. set places k (due_of (record { live = slot.live; kept = f slot.kept }))) kept.wait ∙ sym (waits_set slots k (record { live = slot.live; kept = f slot.kept })));
        counted = kept.counted ∙ (sym (length_changed (is_numbered number) f (living slots)) ∙ ap length (sym (at.changes f)));
      })

  -- A change that also keeps the last access.
  pub kept_same : (f : Session → Session) → ((s : Session) → (f s).number ≡ s.number) → ((s : Session) → (f s).id ≡ s.id)
      → ((s : Session) → (f s).last_access ≡ s.last_access) → (new : Session) → new ≡ f slot.kept
      → AreKept serial count (set slots k (record { live = slot.live; kept = new })) ids queue
  kept_same f numbers same accesses new is_new =
      kept_changed f numbers same new is_new queue
      (kept.wait ∙ (waits_same slots k slot is ∙ (ap (λ places. set places k (due_of slot)) (sym kept.wait)
      ∙ ap (set queue k) (sym (same_due (f slot.kept) (numbers slot.kept) (accesses slot.kept))))))
    where
      same_due : (s : Session) → s.number ≡ slot.kept.number → s.last_access ≡ slot.kept.last_access
          → due_of (record { live = slot.live; kept = s }) ≡ due_of slot
      same_due s n a = ap (λ (d : Due). cond slot.live (Some d) None)
          (ap (λ m. record { last_access = s.last_access; number = m }) n ∙ ap (λ m. record { last_access = m; number = slot.kept.number }) a)

  -- The queue after an access.
  pub accessed : (last : ℕ) (after : Waiting) → after ≡ set queue k (Some (record { last_access = last; number = number }))
      → after ≡ set queue k (due_of (record { live = slot.live; kept = record slot.kept { last_access = last } }))
  accessed last after is =
      is ∙ ap (set queue k) (there last)
    where
      there : (last : ℕ) → Some (record { last_access = last; number = number }) ≡ due_of (record { live = slot.live; kept = record slot.kept { last_access = last } })
      there last = rw at.lives (ap (λ n. Some (record { last_access = last; number = n })) (sym at.numbered))

  -- The session ends.
  pub kept_left : (new : Session) → new.number ≡ slot.kept.number → (left : Ids)
      → ((id : List ℕ) → number_in left id ≡ cond (bytes_eq slot.kept.id id) None (number_in ids id))
      → (after : Waiting) → after ≡ set queue k None → (less : ℕ) → less + 1 ≡ count
      → AreKept serial less (set slots k (record { live = false; kept = new })) left after
  kept_left new numbered left out after waits less fewer = record {
    fits = kept.fits;
    rise = rise_set 0 serial slots k slot (record { live = false; kept = new }) is numbered kept.rise;
    differ = subst (IdsDiffer serial) (sym (at.leaves new)) (differ_left serial (is_numbered number) (living slots) kept.differ);
    named = λ id. out id ∙ (ap (cond (bytes_eq slot.kept.id id) None) (kept.named id)
        ∙ (among_left serial number (living slots) slot.kept id kept.differ at.finds ∙ ap (λ all. number_among all id) (sym (at.leaves new))));
    wait = waits ∙ (ap (λ places. set places k None) kept.wait ∙ sym (waits_set slots k (record { live = false; kept = new })));
    counted =
        let one_less = length_left number (living slots) slot.kept at.finds in
        omega (arith, fewer, kept.counted, one_less, ap length (at.leaves new));
  }

  -- The session gets a new id.
  pub kept_renamed : (words : ℕ × ℕ) (new : Session) → new ≡ record slot.kept { id = id_text words (serial + 1) } → serial + 1 ≤ GREATEST_SERIAL → (left : Ids)
      → ((id : List ℕ) → number_in left id ≡ cond (bytes_eq slot.kept.id id) None (cond (bytes_eq (id_text words (serial + 1)) id) (Some number) (number_in ids id)))
      → AreKept (serial + 1) count (set slots k (record { live = slot.live; kept = new })) left queue
  kept_renamed words new is_new small left out =
      let given = id_text words (serial + 1) in
      let f : Session → Session = λ s. record s { id = given } in
      let none = new_id words serial (living slots) (omega (arith, small)) kept.differ in
      subst (λ s. AreKept (serial + 1) count (set slots k (record { live = slot.live; kept = s })) left queue) (sym is_new)
      (record {
        fits = small;
        rise = slots_above 0 serial (serial + 1) (set slots k (record { live = slot.live; kept = f slot.kept })) (omega arith)
            (rise_set 0 serial slots k slot (record { live = slot.live; kept = f slot.kept }) is refl kept.rise);
        differ = subst (IdsDiffer (serial + 1)) (sym (at.changes f)) (differ_renamed words serial (is_numbered number) (living slots) none kept.differ);
        named = λ id. out id ∙ (ap (λ o. cond (bytes_eq slot.kept.id id) None (cond (bytes_eq given id) (Some number) o)) (kept.named id)
            ∙ (among_renamed serial number given (living slots) slot.kept id none kept.differ at.finds ∙ ap (λ all. number_among all id) (sym (at.changes f))));
        wait = kept.wait ∙ (waits_same slots k slot is ∙ sym (waits_set slots k (record { live = slot.live; kept = f slot.kept })));
        counted = kept.counted ∙ (sym (length_changed (is_numbered number) f (living slots)) ∙ ap length (sym (at.changes f)));
      })

-- ---- one more session
pub living_more : (slots : List Slot) (session : Session) → living (slots ++ record { live = true; kept = session } ∷ []) ≡ living slots ++ session ∷ []
living_more [] session = refl
living_more (x ∷ xs) session = elim (cases_Bool x.live) [
  | inl lives ↦ rw lives (ap (λ rest. x.kept ∷ rest) (living_more xs session))
  | inr dead ↦ rw dead (living_more xs session)
]

length_more : (sessions : List Session) (session : Session) → length (sessions ++ session ∷ []) ≡ length sessions + 1
length_more [] session = refl
length_more (x ∷ xs) session = omega (arith, length_more xs session)

module _ (serial count : ℕ) (slots : List Slot) (ids : Ids) (queue : Waiting) (kept : AreKept serial count slots ids queue)
    (words : ℕ × ℕ) (now : ℕ) (small : serial + 1 ≤ GREATEST_SERIAL) where
  abbrev new : Session
  new = session_opened words (serial + 1) now

  none_new : NoneHas new.id (living slots)
  none_new = new_id words serial (living slots) (omega (arith, small)) kept.differ

  -- The id of a session that could not be added is removed again.
  pub kept_back : (entered left : Ids) → ((id : List ℕ) → number_in entered id ≡ cond (bytes_eq new.id id) (Some new.number) (number_in ids id))
      → ((id : List ℕ) → number_in left id ≡ cond (bytes_eq new.id id) None (number_in entered id)) → (id : List ℕ) → number_in left id ≡ number_in ids id
  kept_back entered left came went id = elim (cases_Bool (bytes_eq new.id id)) [
    | inl has ↦ went id ∙ (cond-true (bytes_eq new.id id) None (number_in entered id) has
        ∙ (sym (none_found new.id id (living slots) none_new has) ∙ sym (kept.named id)))
    | inr other ↦ went id ∙ (cond-false (bytes_eq new.id id) None (number_in entered id) other
        ∙ (came id ∙ cond-false (bytes_eq new.id id) (Some new.number) (number_in ids id) other))
  ]

  pub kept_more : (entered : Ids) → ((id : List ℕ) → number_in entered id ≡ cond (bytes_eq new.id id) (Some new.number) (number_in ids id))
      → (after : Waiting) → after ≡ queue ++ Some (record { last_access = now; number = serial + 1 }) ∷ []
      → AreKept (serial + 1) (count + 1) (slots ++ record { live = true; kept = new } ∷ []) entered after
  kept_more entered came after waits = record {
    fits = small;
    rise = rise_more 0 serial slots (record { live = true; kept = new }) refl kept.rise;
    differ = subst (IdsDiffer (serial + 1)) (sym (living_more slots new)) (differ_opened words now serial (living slots) none_new kept.differ);
    named = λ id. came id ∙ (ap (cond (bytes_eq new.id id) (Some new.number)) (kept.named id)
        ∙ (among_more new (living slots) id none_new ∙ ap (λ all. number_among all id) (sym (living_more slots new))));
    wait = waits ∙ (ap (λ places. places ++ Some (record { last_access = now; number = serial + 1 }) ∷ []) kept.wait
        ∙ sym (waits_more slots (record { live = true; kept = new })));
    counted = ap (λ n. n + 1) kept.counted ∙ (sym (length_more (living slots) new) ∙ ap length (sym (living_more slots new)));
  }

-- ---- empty slots are removed
rise_filtered : (low high : ℕ) (slots : List Slot) → SlotsRise low high slots → SlotsRise low high (filter (λ (s : Slot). s.live) slots)
rise_filtered low high [] rise = rise
rise_filtered low high (x ∷ xs) rise = elim (cases_Bool x.live) [
  | inl lives ↦ rw lives (rise.0, rise_filtered x.kept.number high xs rise.1)
  | inr dead ↦ rw dead (slots_below low x.kept.number high (filter (λ (s : Slot). s.live) xs) (omega (arith, rise.0)) (rise_filtered x.kept.number high xs rise.1))
]

pub living_filtered : (slots : List Slot) → living (filter (λ (s : Slot). s.live) slots) ≡ living slots
living_filtered [] = refl
living_filtered (x ∷ xs) = elim (cases_Bool x.live) [
  | inl lives ↦ rw lives (ap (λ rest. x.kept ∷ rest) (living_filtered xs))
  | inr dead ↦ rw dead (living_filtered xs)
]

pub kept_gathered : (serial count : ℕ) (slots after : List Slot) (ids : Ids) (queue waiting : Waiting) → AreKept serial count slots ids queue
    → after ≡ filter (λ (s : Slot). s.live) slots → waiting ≡ map due_of (filter (λ (s : Slot). s.live) slots)
    → AreKept serial count after ids waiting
kept_gathered serial count slots after ids queue waiting kept is waits =
    let gone = living_filtered slots in
    subst (λ all. AreKept serial count all ids waiting) (sym is)
    (record {
      fits = kept.fits;
      rise = rise_filtered 0 serial slots kept.rise;
      differ = subst (IdsDiffer serial) (sym gone) kept.differ;
      named = λ id. kept.named id ∙ ap (λ all. number_among all id) (sym gone);
      wait = waits;
      counted = kept.counted ∙ ap length (sym gone);
    })

-- ---- the lowest number
fold_least : (n high : ℕ) (slots : List Slot) → SlotsRise n high slots → fold min n (map (λ (s : Session). s.number) (living slots)) ≡ n
fold_least n high [] rise = refl
fold_least n high (x ∷ xs) rise = elim (cases_Bool x.live) [
  | inl lives ↦
      let least : min n x.kept.number ≡ n = omega (arith, rise.0) in
      rw lives (ap (λ m. fold min m (map (λ (s : Session). s.number) (living xs))) least ∙ fold_least n high xs (slots_below n x.kept.number high xs (omega (arith, rise.0)) rise.1))
  | inr dead ↦ rw dead (fold_least n high xs (slots_below n x.kept.number high xs (omega (arith, rise.0)) rise.1))
]

pub least_first : (low high : ℕ) (slots : List Slot) → SlotsRise low high slots
    → option_map (λ (s : Slot). s.kept.number) (find (λ (s : Slot). s.live) slots) ≡ reduce min (map (λ (s : Session). s.number) (living slots))
least_first low high [] rise = refl
least_first low high (x ∷ xs) rise = elim (cases_Bool x.live) [
  | inl lives ↦ rw lives (ap Some (sym (fold_least x.kept.number high xs rise.1)))
  | inr dead ↦ rw dead (least_first x.kept.number high xs rise.1)
]

-- ---- all sessions
living_rise : (low high : ℕ) (slots : List Slot) → SlotsRise low high slots → NumbersRise low high (living slots)
living_rise low high [] rise = rise
living_rise low high (x ∷ xs) rise = elim (cases_Bool x.live) [
  | inl lives ↦ rw lives (rise.0, living_rise x.kept.number high xs rise.1)
  | inr dead ↦ rw dead (rise_below low x.kept.number high (living xs) (omega (arith, rise.0)) (living_rise x.kept.number high xs rise.1))
]

pub in_order : (limit interval serial : ℕ) (slots : List Slot) (store : Store)
    → record { limit = limit; interval = interval; serial = serial; sessions = living slots } ≡ store → SlotsRise 0 serial slots → IsOrderly store
in_order limit interval serial slots store view rise = subst IsOrderly view (living_rise 0 serial slots rise)

-- ---- the same ids
pub kept_ids : (serial count : ℕ) (slots : List Slot) (ids others : Ids) (queue : Waiting) → AreKept serial count slots ids queue
    → ((id : List ℕ) → number_in others id ≡ number_in ids id) → AreKept serial count slots others queue
kept_ids serial count slots ids others queue kept same = record {
  fits = kept.fits;
  rise = kept.rise;
  differ = kept.differ;
  named = λ id. same id ∙ kept.named id;
  wait = kept.wait;
  counted = kept.counted;
}

-- More serials count as used.
pub kept_used : (serial used count : ℕ) (slots : List Slot) (ids : Ids) (queue : Waiting) → serial ≤ used → used ≤ GREATEST_SERIAL
    → AreKept serial count slots ids queue → AreKept used count slots ids queue
kept_used serial used count slots ids queue above fits kept =
    record {
      fits = fits;
      rise = slots_above 0 serial used slots above kept.rise;
      differ = differ_above serial used (living slots) above kept.differ;
      named = kept.named;
      wait = kept.wait;
      counted = kept.counted;
    }

-- One id is entered and another removed.
pub come_and_gone : (number : ℕ) (ids entered left : Ids) (given gone came went : List ℕ) → came ≡ given → went ≡ gone
    → ((id : List ℕ) → number_in entered id ≡ cond (bytes_eq came id) (Some number) (number_in ids id))
    → ((id : List ℕ) → number_in left id ≡ cond (bytes_eq went id) None (number_in entered id))
    → (id : List ℕ) → number_in left id ≡ cond (bytes_eq gone id) None (cond (bytes_eq given id) (Some number) (number_in ids id))
come_and_gone number ids entered left given gone came went is_given is_gone enters leaves id =
    leaves id ∙ (ap (λ bs. cond (bytes_eq bs id) None (number_in entered id)) is_gone
    ∙ ap (cond (bytes_eq gone id) None) (enters id ∙ ap (λ bs. cond (bytes_eq bs id) (Some number) (number_in ids id)) is_given))

pub gone_same : (ids left : Ids) (gone went : List ℕ) → went ≡ gone
    → ((id : List ℕ) → number_in left id ≡ cond (bytes_eq went id) None (number_in ids id))
    → (id : List ℕ) → number_in left id ≡ cond (bytes_eq gone id) None (number_in ids id)
gone_same ids left gone went same leaves id = leaves id ∙ ap (λ bs. cond (bytes_eq bs id) None (number_in ids id)) same

pub some_counted : (serial count number k : ℕ) (slots : List Slot) (ids : Ids) (queue : Waiting) (slot : Slot) → AreKept serial count slots ids queue
    → IsAt number slots k slot → 1 ≤ count
some_counted serial count number k slots ids queue slot kept at =
    let one_less = length_left number (living slots) slot.kept at.finds in omega (arith, kept.counted, one_less)

pub least_at : (limit interval serial : ℕ) (slots seen : List Slot) (store : Store) → seen ≡ slots
    → record { limit = limit; interval = interval; serial = serial; sessions = living slots } ≡ store → SlotsRise 0 serial slots
    → (found : Option Slot) → found ≡ find (λ (s : Slot). s.live) seen → option_map (λ (s : Slot). s.kept.number) found ≡ least_number store
least_at limit interval serial slots seen store same view rise found is =
    ap (option_map (λ (s : Slot). s.kept.number)) (is ∙ ap (find (λ (s : Slot). s.live)) same)
    ∙ (least_first 0 serial slots rise ∙ ap least_number view)
