-- The ids of the live sessions differ, so each session is found by its own id.
use Rattle.std.proofs.Common.{◌≡◌, ◌≢◌, ℕ, ◌+◌, ◌^◌, ◌<◌, ◌≤◌, Bool, true, false, inl, inr, List, [], ◌∷◌, ◌++◌, length, Option, Some, None, refl, sym, ◌∙◌, ap, subst, arith}
use Rattle.std.specs.List.{find}
use Rattle.std.specs.Option.{option_map, option_map_or}
use Rattle.std.specs.Prelude.{nat_le}
use Rattle.std.specs.Str.{bytes_eq}
use Rattle.std.proofs.lemmas.Bool.{cases_Bool, eqb-true, false_from_ne_true}
use Rattle.std.proofs.lemmas.Option.{none-some, same_Some}
use Rattle.std.proofs.lemmas.Slice.Eq.{bytes_eq-Decides}
use Rattle.sv_text.specs.Faults.{when}
use Rattle.sv_session.specs.declared.limits.TheConstants.{GREATEST_SERIAL}
use Rattle.sv_session.specs.declared.session_fault.SessionFault.{SessionFault}
use Rattle.sv_session.specs.declared.session_fault.SessionFault.TheVariants.{SerialSpent, TooMany}
use Rattle.sv_session.specs.Attributes.{with_named, without_named}
use Rattle.sv_session.specs.Calls.{expired_number, is_spent, missing, opened, opening_faults, renamed, renaming_faults, session_opened, setting_faults, with_attribute, without}
use Rattle.sv_session.specs.Id.{id_text}
use Rattle.sv_session.specs.Ids.{IdsDiffer, IsGiven, NoneHas}
use Rattle.sv_session.specs.Lists.{on_first, without_first}
use Rattle.sv_session.specs.Runs.{Call, Open, Touch, Expire, End, Rename, EnterCaller, Save, TakeSaved, Set, Remove, left_after, left_by, unless}
use Rattle.sv_session.specs.Store.{Session, Store, empty_store, has_id, is_numbered, number_of, numbered}
use Rattle.sv_session.proofs.IdLemmas.{id_len, nothing_behind, rises_unspent, serials_tell}

-- ---- changes of the list
none_has_changed : (id : List ℕ) (test : Session → Bool) (change : Session → Session) → ((session : Session) → session.id ≢ id → (change session).id ≢ id)
    → (sessions : List Session) → NoneHas id sessions → NoneHas id (on_first test change sessions)
none_has_changed id test change keeps [] none = none
none_has_changed id test change keeps (x ∷ xs) none = elim (cases_Bool (test x)) [
  | inl passes ↦ rw passes (keeps x none.0, none.1)
  | inr fails ↦ rw fails (none.0, none_has_changed id test change keeps xs none.1)
]

none_has_left : (id : List ℕ) (test : Session → Bool) (sessions : List Session) → NoneHas id sessions → NoneHas id (without_first test sessions)
none_has_left id test [] none = none
none_has_left id test (x ∷ xs) none = elim (cases_Bool (test x)) [
  | inl passes ↦ rw passes none.1
  | inr fails ↦ rw fails (none.0, none_has_left id test xs none.1)
]

pub none_has_more : (id : List ℕ) (sessions : List Session) (last : Session) → NoneHas id sessions → last.id ≢ id → NoneHas id (sessions ++ last ∷ [])
none_has_more id [] last none other = (other, tt)
none_has_more id (x ∷ xs) last none other = (none.0, none_has_more id xs last none.1 other)

given_above : (bound higher : ℕ) (id : List ℕ) → bound ≤ higher → IsGiven bound id → IsGiven higher id
given_above bound higher id above given = (given.0, given.1, omega (arith, above, given.2), given.3)

pub differ_above : (bound higher : ℕ) (sessions : List Session) → bound ≤ higher → IdsDiffer bound sessions → IdsDiffer higher sessions
differ_above bound higher [] above differ = tt
differ_above bound higher (x ∷ xs) above differ = (given_above bound higher x.id above differ.0, differ.1, differ_above bound higher xs above differ.2)

differ_more : (bound : ℕ) (sessions : List Session) → IdsDiffer bound sessions → IdsDiffer (bound + 1) sessions
differ_more bound sessions differ = differ_above bound (bound + 1) sessions (omega arith) differ

pub differ_left : (bound : ℕ) (test : Session → Bool) (sessions : List Session) → IdsDiffer bound sessions → IdsDiffer bound (without_first test sessions)
differ_left bound test [] differ = differ
differ_left bound test (x ∷ xs) differ = elim (cases_Bool (test x)) [
  | inl passes ↦ rw passes differ.2
  | inr fails ↦ rw fails (differ.0, none_has_left x.id test xs differ.1, differ_left bound test xs differ.2)
]

-- A change that keeps the id.
pub differ_kept : (bound : ℕ) (test : Session → Bool) (change : Session → Session) → ((session : Session) → (change session).id ≡ session.id)
    → (sessions : List Session) → IdsDiffer bound sessions → IdsDiffer bound (on_first test change sessions)
differ_kept bound test change keeps [] differ = differ
differ_kept bound test change keeps (x ∷ xs) differ = elim (cases_Bool (test x)) [
  | inl passes ↦ rw (passes, keeps x) differ
  | inr fails ↦ rw fails (
    differ.0,
    none_has_changed x.id test change (λ session other same. other (sym (keeps session) ∙ same)) xs differ.1,
    differ_kept bound test change keeps xs differ.2,
  )
]

-- An id with the next serial belongs to no session.
pub new_id : (words : ℕ × ℕ) (bound : ℕ) (sessions : List Session) → bound + 1 < 2 ^ 64 → IdsDiffer bound sessions → NoneHas (id_text words (bound + 1)) sessions
new_id words bound [] small differ = tt
new_id words bound (x ∷ xs) small differ = (
  λ same.
      let less : differ.0.1 < 2 ^ 64 = omega (arith, differ.0.2) in
      let equal : differ.0.1 ≡ bound + 1 = serials_tell differ.0.0 words differ.0.1 (bound + 1) less small (sym differ.0.3 ∙ same) in
      omega (arith, equal, differ.0.2),
  new_id words bound xs small differ.2,
)

pub differ_opened : (words : ℕ × ℕ) (now bound : ℕ) (sessions : List Session) → NoneHas (id_text words (bound + 1)) sessions → IdsDiffer bound sessions
    → IdsDiffer (bound + 1) (sessions ++ session_opened words (bound + 1) now ∷ [])
differ_opened words now bound [] none differ = ((words, bound + 1, omega arith, refl), tt, tt)
differ_opened words now bound (x ∷ xs) none differ = (
  given_above bound (bound + 1) x.id (omega arith) differ.0,
  none_has_more x.id xs (session_opened words (bound + 1) now) differ.1 (λ same. none.0 (sym same)),
  differ_opened words now bound xs none.1 differ.2,
)

module _ (words : ℕ × ℕ) (bound : ℕ) (test : Session → Bool) where
  abbrev change : Session → Session
  change session = record session { id = id_text words (bound + 1) }

  pub differ_renamed : (sessions : List Session) → NoneHas (id_text words (bound + 1)) sessions → IdsDiffer bound sessions
      → IdsDiffer (bound + 1) (on_first test change sessions)
  differ_renamed [] none differ = tt
  differ_renamed (x ∷ xs) none differ = elim (cases_Bool (test x)) [
    | inl passes ↦ rw passes ((words, bound + 1, omega arith, refl), none.1, differ_more bound xs differ.2)
    | inr fails ↦ rw fails (
      given_above bound (bound + 1) x.id (omega arith) differ.0,
      none_has_changed x.id test change (λ session other same. none.0 (sym same)) xs differ.1,
      differ_renamed xs none.1 differ.2,
    )
  ]

-- ---- calls
abbrev HasOwnIds : Store → Type 0
HasOwnIds store = (store.serial ≤ GREATEST_SERIAL) × IdsDiffer store.serial store.sessions

still_own : (number : ℕ) (change : Session → Session) → ((session : Session) → (change session).id ≡ session.id)
    → (store : Store) → HasOwnIds store → HasOwnIds (record store { sessions = on_first (is_numbered number) change store.sessions })
still_own number change keeps store own = (own.0, differ_kept store.serial (is_numbered number) change keeps store.sessions own.1)

own_left : (number : ℕ) (store : Store) → HasOwnIds store → HasOwnIds (without number store)
own_left number store own = (own.0, differ_left store.serial (is_numbered number) store.sessions own.1)

call_leaves_own : (call : Call) (store : Store) → HasOwnIds store → HasOwnIds (left_by call store)
call_leaves_own (Open words now) store own = by_faults (opening_faults store) refl
  where
    by_faults : (faults : List SessionFault) → opening_faults store ≡ faults → HasOwnIds (unless faults (opened words now store) store)
    by_faults (fault ∷ faults) some = own
    by_faults [] none =
        let more = rises_unspent store.serial own.0 (nothing_behind (when (nat_le store.limit (length store.sessions)) TooMany) (is_spent store) SerialSpent none) in
        (more.0, differ_opened words now store.serial store.sessions (new_id words store.serial store.sessions more.1 own.1) own.1)
call_leaves_own (Rename number words) store own = by_faults (renaming_faults number store) refl
  where
    by_faults : (faults : List SessionFault) → renaming_faults number store ≡ faults → HasOwnIds (unless faults (renamed number words store) store)
    by_faults (fault ∷ faults) some = own
    by_faults [] none =
        let more = rises_unspent store.serial own.0 (nothing_behind (missing number store) (is_spent store) SerialSpent none) in
        (more.0, differ_renamed words store.serial (is_numbered number) store.sessions (new_id words store.serial store.sessions more.1 own.1) own.1)
call_leaves_own (Set number name value) store own = by_faults (setting_faults number name value store)
  where
    by_faults : (faults : List SessionFault) → HasOwnIds (unless faults (with_attribute number name value store) store)
    by_faults [] = still_own number (λ session. record session { attributes = with_named name value session.attributes }) (λ _. refl) store own
    by_faults (fault ∷ faults) = own
call_leaves_own (Expire now) store own = by_number (expired_number now store)
  where
    by_number : (number : Option ℕ) → HasOwnIds (option_map_or (λ number. without number store) number store)
    by_number None = own
    by_number (Some number) = own_left number store own
call_leaves_own (Touch number now) store own = still_own number (λ session. record session { last_access = now }) (λ _. refl) store own
call_leaves_own (End number) store own = own_left number store own
call_leaves_own (EnterCaller number caller) store own = still_own number (λ session. record session { caller = caller }) (λ _. refl) store own
call_leaves_own (Save number target) store own = still_own number (λ session. record session { saved = Some target }) (λ _. refl) store own
call_leaves_own (TakeSaved number) store own = still_own number (λ session. record session { saved = None }) (λ _. refl) store own
call_leaves_own (Remove number name) store own =
    still_own number (λ session. record session { attributes = without_named name session.attributes }) (λ _. refl) store own

own_behind : (calls : List Call) (store : Store) → HasOwnIds store → HasOwnIds (left_after calls store)
own_behind [] store own = own
own_behind (call ∷ calls) store own = own_behind calls (left_by call store) (call_leaves_own call store own)

-- ---- found by its id
pub itself : (id : List ℕ) → bytes_eq id id ≡ true
itself id = (bytes_eq-Decides id id).1 refl

pub another : (left right : List ℕ) → left ≢ right → bytes_eq left right ≡ false
another left right other = false_from_ne_true (bytes_eq left right) (λ same. other ((bytes_eq-Decides left right).0 same))

pub found_has : (number : ℕ) (id : List ℕ) (sessions : List Session) (session : Session) → find (is_numbered number) sessions ≡ Some session
    → NoneHas id sessions → session.id ≢ id
found_has number id [] session found none = absurd (none-some session found)
found_has number id (x ∷ xs) session found none = elim (cases_Bool (is_numbered number x)) [
  | inl passes ↦ let same : x ≡ session = same_Some x session (rw passes at found) in λ equal. none.0 (ap (λ s. s.id) same ∙ equal)
  | inr fails ↦ found_has number id xs session (rw fails at found) none.1
]

found_by_id : (number bound : ℕ) (sessions : List Session) (session : Session) → IdsDiffer bound sessions → find (is_numbered number) sessions ≡ Some session
    → (find (has_id session.id) sessions ≡ Some session) × (session.number ≡ number)
found_by_id number bound [] session differ found = absurd (none-some session found)
found_by_id number bound (x ∷ xs) session differ found = elim (cases_Bool (is_numbered number x)) [
  | inl passes ↦
      let same : x ≡ session = same_Some x session (rw passes at found) in (
        rw (ap (λ id. bytes_eq id session.id) (ap (λ s. s.id) same) ∙ itself session.id) (ap Some same),
        ap (λ s. s.number) (sym same) ∙ eqb-true x.number number passes,
      )
  | inr fails ↦
      let later : find (is_numbered number) xs ≡ Some session = rw fails at found in
      let more = found_by_id number bound xs session differ.2 later in
      let other : x.id ≢ session.id = λ equal. found_has number x.id xs session later differ.1 (sym equal) in
      (rw (another x.id session.id other) more.0, more.1)
]

pub id_names_session : (limit interval : ℕ) (calls : List Call) (number : ℕ) (session : Session)
    → numbered number (left_after calls (empty_store limit interval)) ≡ Some session → number_of session.id (left_after calls (empty_store limit interval)) ≡ Some number
id_names_session limit interval calls number session found =
    let store = left_after calls (empty_store limit interval) in
    let own : HasOwnIds (empty_store limit interval) = (omega arith, tt) in
    let at = found_by_id number store.serial store.sessions session (own_behind calls (empty_store limit interval) own).1 found in
    rw at.0 (ap Some at.1)

-- ---- an id of another length belongs to no session
pub none_of_length : (bound : ℕ) (sessions : List Session) (id : List ℕ) → IdsDiffer bound sessions → length id ≢ 48 → find (has_id id) sessions ≡ None
none_of_length bound [] id differ other = refl
none_of_length bound (x ∷ xs) id differ other =
    let apart : x.id ≢ id = λ same. other (ap length (sym same ∙ differ.0.3) ∙ id_len differ.0.0 differ.0.1) in
    rw (another x.id id apart) (none_of_length bound xs id differ.2 other)

pub no_number : (limit interval serial : ℕ) (sessions : List Session) (store : Store)
    → record { limit = limit; interval = interval; serial = serial; sessions = sessions } ≡ store → IdsDiffer serial sessions
    → (id : List ℕ) → length id ≢ 48 → None ≡ number_of id store
no_number limit interval serial sessions store view differ id other =
    subst (λ s. None ≡ number_of id s) view (ap (option_map (λ (s : Session). s.number)) (sym (none_of_length serial sessions id differ other)))
