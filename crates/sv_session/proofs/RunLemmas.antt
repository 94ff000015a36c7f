-- Calls keep the order, and let no session expire.
use Rattle.std.proofs.Common.{◌≡◌, ℕ, ◌+◌, ◌-◌, Bool, false, ◌&&◌, inl, inr, List, [], ◌∷◌, ◌++◌, Option, Some, None, refl, sym, ◌∙◌, subst, ltb, leb, arith}
use Rattle.std.specs.List.{find, list_any}
use Rattle.std.specs.Option.{option_map_or}
use Rattle.std.proofs.lemmas.Bool.{cases_Bool, or_from, or_parts}
use Rattle.std.proofs.lemmas.Bool.Decides.{nat_tests}
use Rattle.std.proofs.lemmas.List.Folds.{list_any-append}
use Rattle.std.proofs.lemmas.Option.{none-some, same_Some}
use Rattle.sv_session.specs.declared.session_fault.SessionFault.{SessionFault}
use Rattle.sv_session.specs.Attributes.{with_named, without_named}
use Rattle.sv_session.specs.Calls.{expired_number, opened, opening_faults, renamed, renaming_faults, session_opened, setting_faults, with_attribute, without}
use Rattle.sv_session.specs.Expiry.{HasNoneExpired, has_expired}
use Rattle.sv_session.specs.Id.{id_text}
use Rattle.sv_session.specs.Lists.{on_first, without_first}
use Rattle.sv_session.specs.Runs.{Call, Open, Touch, Expire, End, Rename, EnterCaller, Save, TakeSaved, Set, Remove, IsAt, left_by, unless}
use Rattle.sv_session.specs.Store.{IsOrderly, Session, Store, is_numbered}
use Rattle.sv_session.proofs.OrderLemmas.{rise_above, rise_changed, rise_push, rise_without}

-- A property of both alternatives holds for `unless`.
pub where_either : {A : Type 0} (P : A → Type 0) (faults : List SessionFault) (done refused : A) → P done → P refused → P (unless faults done refused)
where_either P [] done refused here there = here
where_either P (fault ∷ faults) done refused here there = there

-- ---- order
still_orderly : (number : ℕ) (change : Session → Session) → ((session : Session) → (change session).number ≡ session.number)
    → (store : Store) → IsOrderly store → IsOrderly (record store { sessions = on_first (is_numbered number) change store.sessions })
still_orderly number change keeps store orderly = rise_changed (is_numbered number) change keeps 0 store.serial store.sessions orderly

orderly_without : (number : ℕ) (store : Store) → IsOrderly store → IsOrderly (without number store)
orderly_without number store orderly = rise_without (is_numbered number) 0 store.serial store.sessions orderly

pub call_leaves_order : (call : Call) (store : Store) → IsOrderly store → IsOrderly (left_by call store)
call_leaves_order (Open words now) store orderly =
    where_either IsOrderly (opening_faults store) (opened words now store) store
    (rise_push 0 store.serial store.sessions (session_opened words (store.serial + 1) now) refl orderly) orderly
call_leaves_order (Touch number now) store orderly = still_orderly number (λ session. record session { last_access = now }) (λ _. refl) store orderly
call_leaves_order (Expire now) store orderly = by_number (expired_number now store)
  where
    by_number : (number : Option ℕ) → IsOrderly (option_map_or (λ number. without number store) number store)
    by_number None = orderly
    by_number (Some number) = orderly_without number store orderly
call_leaves_order (End number) store orderly = orderly_without number store orderly
call_leaves_order (Rename number words) store orderly =
    where_either IsOrderly (renaming_faults number store) (renamed number words store) store
    (rise_above 0 store.serial (store.serial + 1) (on_first (is_numbered number) (λ session. record session { id = id_text words (store.serial + 1) }) store.sessions) (omega arith)
    (still_orderly number (λ session. record session { id = id_text words (store.serial + 1) }) (λ _. refl) store orderly))
    orderly
call_leaves_order (EnterCaller number caller) store orderly = still_orderly number (λ session. record session { caller = caller }) (λ _. refl) store orderly
call_leaves_order (Save number target) store orderly = still_orderly number (λ session. record session { saved = Some target }) (λ _. refl) store orderly
call_leaves_order (TakeSaved number) store orderly = still_orderly number (λ session. record session { saved = None }) (λ _. refl) store orderly
call_leaves_order (Set number name value) store orderly =
    where_either IsOrderly (setting_faults number name value store) (with_attribute number name value store) store
    (still_orderly number (λ session. record session { attributes = with_named name value session.attributes }) (λ _. refl) store orderly) orderly
call_leaves_order (Remove number name) store orderly =
    still_orderly number (λ session. record session { attributes = without_named name session.attributes }) (λ _. refl) store orderly

-- ---- times
-- A session that is accessed at a time has not expired at that time.
pub not_yet : (interval now : ℕ) → (ltb 0 interval && leb interval (now - now)) ≡ false
not_yet interval now = grind (arith, nat_tests)

pub touched_now : (number now : ℕ) (interval : ℕ) (sessions : List Session) (session : Session)
    → find (is_numbered number) (on_first (is_numbered number) (λ s. record s { last_access = now }) sessions) ≡ Some session
    → has_expired interval now session ≡ false
touched_now number now interval [] session found = absurd (none-some session found)
touched_now number now interval (x ∷ xs) session found = elim (cases_Bool (is_numbered number x)) [
  | inl passes ↦ subst (λ s. has_expired interval now s ≡ false) (same_Some (record x { last_access = now }) session (rw (passes, passes) at found)) (not_yet interval now)
  | inr fails ↦ touched_now number now interval xs session (rw (fails, fails) at found)
]

pub none_changed : (test place : Session → Bool) (change : Session → Session) → ((session : Session) → test session ≡ false → test (change session) ≡ false)
    → (sessions : List Session) → list_any test sessions ≡ false → list_any test (on_first place change sessions) ≡ false
none_changed test place change keeps [] none = refl
none_changed test place change keeps (x ∷ xs) none =
    let parts = or_parts (test x) (list_any test xs) none in
    elim (cases_Bool (place x)) [
      | inl passes ↦ rw passes (or_from (test (change x)) (list_any test xs) (keeps x parts.0) parts.1)
      | inr fails ↦ rw fails (or_from (test x) (list_any test (on_first place change xs)) parts.0 (none_changed test place change keeps xs parts.1))
    ]

pub none_without : (test place : Session → Bool) (sessions : List Session) → list_any test sessions ≡ false → list_any test (without_first place sessions) ≡ false
none_without test place [] none = refl
none_without test place (x ∷ xs) none =
    let parts = or_parts (test x) (list_any test xs) none in
    elim (cases_Bool (place x)) [
      | inl passes ↦ rw passes parts.1
      | inr fails ↦ rw fails (or_from (test x) (list_any test (without_first place xs)) parts.0 (none_without test place xs parts.1))
    ]

pub none_pushed : (test : Session → Bool) (sessions : List Session) (last : Session) → test last ≡ false → list_any test sessions ≡ false
    → list_any test (sessions ++ last ∷ []) ≡ false
none_pushed test sessions last new none = list_any-append test sessions (last ∷ []) ∙ or_from (list_any test sessions) _ none (or_from (test last) false new refl)

still_none : (now number : ℕ) (change : Session → Session) (store : Store)
    → ((session : Session) → has_expired store.interval now session ≡ false → has_expired store.interval now (change session) ≡ false)
    → HasNoneExpired now store → HasNoneExpired now (record store { sessions = on_first (is_numbered number) change store.sessions })
still_none now number change store keeps none = none_changed (has_expired store.interval now) (is_numbered number) change keeps store.sessions none

none_left : (now number : ℕ) (store : Store) → HasNoneExpired now store → HasNoneExpired now (without number store)
none_left now number store none = none_without (has_expired store.interval now) (is_numbered number) store.sessions none

pub call_leaves_none : (now : ℕ) (call : Call) (store : Store) → IsAt now call → HasNoneExpired now store → HasNoneExpired now (left_by call store)
call_leaves_none now (Open words moment) store at none =
    where_either (HasNoneExpired now) (opening_faults store) (opened words moment store) store
    (none_pushed (has_expired store.interval now) store.sessions (session_opened words (store.serial + 1) moment)
    (subst (λ t. has_expired store.interval now (session_opened words (store.serial + 1) t) ≡ false) (sym at) (not_yet store.interval now)) none)
    none
call_leaves_none now (Touch number moment) store at none =
    still_none now number (λ session. record session { last_access = moment }) store
    (λ session was. subst (λ t. has_expired store.interval now (record session { last_access = t }) ≡ false) (sym at) (not_yet store.interval now)) none
call_leaves_none now (Expire moment) store at none = by_number (expired_number moment store)
  where
    by_number : (number : Option ℕ) → HasNoneExpired now (option_map_or (λ number. without number store) number store)
    by_number None = none
    by_number (Some number) = none_left now number store none
call_leaves_none now (End number) store at none = none_left now number store none
call_leaves_none now (Rename number words) store at none =
    where_either (HasNoneExpired now) (renaming_faults number store) (renamed number words store) store
    (still_none now number (λ session. record session { id = id_text words (store.serial + 1) }) store (λ session was. was) none) none
call_leaves_none now (EnterCaller number caller) store at none = still_none now number (λ session. record session { caller = caller }) store (λ session was. was) none
call_leaves_none now (Save number target) store at none = still_none now number (λ session. record session { saved = Some target }) store (λ session was. was) none
call_leaves_none now (TakeSaved number) store at none = still_none now number (λ session. record session { saved = None }) store (λ session was. was) none
call_leaves_none now (Set number name value) store at none =
    where_either (HasNoneExpired now) (setting_faults number name value store) (with_attribute number name value store) store
    (still_none now number (λ session. record session { attributes = with_named name value session.attributes }) store (λ session was. was) none) none
call_leaves_none now (Remove number name) store at none =
    still_none now number (λ session. record session { attributes = without_named name session.attributes }) store (λ session was. was) none
