-- The callers of sessions: the calls that set one, and how its session is found.
use Rattle.std.proofs.Common.{◌≡◌, ◌==◌, ◌⊎◌, ℕ, ◌+◌, Bool, true, false, inl, inr, List, [], ◌∷◌, ◌++◌, Option, Some, None, refl, sym, ◌∙◌, ap, subst, eqb}
use Rattle.std.specs.List.{find, list_any}
use Rattle.std.specs.Option.{option_and_then, option_map_or}
use Rattle.std.proofs.lemmas.Bool.{and_from, and_parts, both_ways, cases_Bool, eq-eqb, eqb-true, or_cases, or_left, or_right}
use Rattle.std.proofs.lemmas.Option.{none-some}
use Rattle.sv_session.specs.Attributes.{with_named, without_named}
use Rattle.sv_session.specs.Calls.{HoldsCaller, caller_of, expired_number, is_held_by, opened, opening_faults, renamed, renaming_faults, session_opened, setting_faults, with_attribute, without}
use Rattle.sv_session.specs.Id.{id_text}
use Rattle.sv_session.specs.Lists.{on_first, without_first}
use Rattle.sv_session.specs.Runs.{Call, Open, Touch, Expire, End, Rename, EnterCaller, Save, TakeSaved, Set, Remove, left_by}
use Rattle.sv_session.specs.Store.{IsOrderly, Session, Store, is_numbered}
use Rattle.sv_session.proofs.OrderLemmas.{IsIn, find_in}
use Rattle.sv_session.proofs.RunLemmas.{none_changed, none_pushed, none_without, where_either}

-- The session has this caller.
abbrev holds : ℕ → Option ℕ → Bool
holds caller own = option_map_or (λ own. own == caller) own false

holds_it : (caller : ℕ) (own : Option ℕ) → holds caller own ≡ true → own ≡ Some caller
holds_it caller None h = absurd (both_ways false refl h)
holds_it caller (Some own) h = ap Some (eqb-true own caller h)

it_holds : (caller : ℕ) (own : Option ℕ) → own ≡ Some caller → holds caller own ≡ true
it_holds caller own same = ap (holds caller) same ∙ eq-eqb caller caller refl

-- If absence is kept, then whatever is present after was present before.
still : (before after : Bool) → (before ≡ false → after ≡ false) → after ≡ true → before ≡ true
still true after none h = refl
still false after none h = absurd (both_ways after (none refl) h)

module _ (number caller : ℕ) where
  abbrev held : List Session → Bool
  held sessions = list_any (is_held_by number caller) sessions

  -- If the caller is in the second store, it was in the first.
  abbrev Had : Store → Store → Type 0
  Had before after = HoldsCaller number caller after → HoldsCaller number caller before

  -- A change that keeps the number and the caller.
  had_changed : (at : ℕ) (change : Session → Session) (sessions : List Session)
      → ((session : Session) → is_held_by number caller session ≡ false → is_held_by number caller (change session) ≡ false)
      → held (on_first (is_numbered at) change sessions) ≡ true → held sessions ≡ true
  had_changed at change sessions keeps =
      still (held sessions) (held (on_first (is_numbered at) change sessions))
      (none_changed (is_held_by number caller) (is_numbered at) change keeps sessions)

  had_without : (at : ℕ) (sessions : List Session) → held (without_first (is_numbered at) sessions) ≡ true → held sessions ≡ true
  had_without at sessions =
      still (held sessions) (held (without_first (is_numbered at) sessions)) (none_without (is_held_by number caller) (is_numbered at) sessions)

  had_pushed : (sessions : List Session) (last : Session) → is_held_by number caller last ≡ false → held (sessions ++ last ∷ []) ≡ true → held sessions ≡ true
  had_pushed sessions last new =
      still (held sessions) (held (sessions ++ last ∷ [])) (none_pushed (is_held_by number caller) sessions last new)

  -- An opened session has no caller.
  opened_holds_none : (words : ℕ × ℕ) (serial now : ℕ) → is_held_by number caller (session_opened words serial now) ≡ false
  opened_holds_none words serial now = elim (cases_Bool (eqb serial number)) [ inl same ↦ rw same refl | inr other ↦ rw other refl ]

  -- A caller found after `EnterCaller` was there before, or was entered by this call.
  entered : (at : ℕ) (new : Option ℕ) (sessions : List Session)
      → held (on_first (is_numbered at) (λ session. record session { caller = new }) sessions) ≡ true
      → (held sessions ≡ true) ⊎ (EnterCaller at new ≡ EnterCaller number (Some caller))
  entered at new [] h = inl h
  entered at new (x ∷ xs) h = elim (cases_Bool (is_numbered at x)) [
    | inl here ↦ elim (or_cases (is_held_by number caller (record x { caller = new })) (held xs) (rw here at h)) [
      | inl first ↦
          let parts = and_parts (eqb x.number number) (holds caller new) first in
          let same : at ≡ number = sym (eqb-true x.number at here) ∙ eqb-true x.number number parts.0 in
          inr (ap (λ n. EnterCaller n new) same ∙ ap (EnterCaller number) (holds_it caller new parts.1))
      | inr later ↦ inl (or_right (is_held_by number caller x) (held xs) later)
    ]
    | inr there ↦ elim (or_cases (is_held_by number caller x) (held (on_first (is_numbered at) (λ session. record session { caller = new }) xs)) (rw there at h)) [
      | inl first ↦ inl (or_left (is_held_by number caller x) (held xs) first)
      | inr later ↦ elim (entered at new xs later) [
        | inl was ↦ inl (or_right (is_held_by number caller x) (held xs) was)
        | inr is ↦ inr is
      ]
    ]
  ]

  pub call_enters : (call : Call) (store : Store) → HoldsCaller number caller (left_by call store)
      → HoldsCaller number caller store ⊎ (call ≡ EnterCaller number (Some caller))
  call_enters (Open words now) store h =
      inl (where_either (Had store) (opening_faults store) (opened words now store) store
      (had_pushed store.sessions (session_opened words (store.serial + 1) now) (opened_holds_none words (store.serial + 1) now)) (λ was. was) h)
  call_enters (Touch at now) store h = inl (had_changed at (λ session. record session { last_access = now }) store.sessions (λ session none. none) h)
  call_enters (Expire now) store h = inl (by_number (expired_number now store) h)
    where
      by_number : (at : Option ℕ) → Had store (option_map_or (λ at. without at store) at store)
      by_number None = λ was. was
      by_number (Some at) = had_without at store.sessions
  call_enters (End at) store h = inl (had_without at store.sessions h)
  call_enters (Rename at words) store h =
      inl (where_either (Had store) (renaming_faults at store) (renamed at words store) store
      (had_changed at (λ session. record session { id = id_text words (store.serial + 1) }) store.sessions (λ session none. none)) (λ was. was) h)
  call_enters (EnterCaller at new) store h = entered at new store.sessions h
  call_enters (Save at target) store h = inl (had_changed at (λ session. record session { saved = Some target }) store.sessions (λ session none. none) h)
  call_enters (TakeSaved at) store h = inl (had_changed at (λ session. record session { saved = None }) store.sessions (λ session none. none) h)
  call_enters (Set at name value) store h =
      inl (where_either (Had store) (setting_faults at name value store) (with_attribute at name value store) store
      (had_changed at (λ session. record session { attributes = with_named name value session.attributes }) store.sessions (λ session none. none)) (λ was. was) h)
  call_enters (Remove at name) store h =
      inl (had_changed at (λ session. record session { attributes = without_named name session.attributes }) store.sessions (λ session none. none) h)

  -- One of the sessions has this caller.
  holder : (sessions : List Session) → held sessions ≡ true → (session : Session) × IsIn session sessions × (is_held_by number caller session ≡ true)
  holder [] h = absurd (both_ways false refl h)
  holder (x ∷ xs) h = elim (or_cases (is_held_by number caller x) (held xs) h) [
    | inl first ↦ (x, inl refl, first)
    | inr later ↦ let more = holder xs later in (more.0, inr more.1, more.2)
  ]

  pub caller_found : (store : Store) → IsOrderly store → HoldsCaller number caller store → caller_of number store ≡ Some caller
  caller_found store orderly h =
      let there = holder store.sessions h in
      let session = there.0 in
      let parts = and_parts (eqb session.number number) (holds caller session.caller) there.2 in
      let found = find_in 0 store.serial store.sessions session orderly there.1 in
      let numbered : find (is_numbered number) store.sessions ≡ Some session =
      subst (λ n. find (is_numbered n) store.sessions ≡ Some session) (eqb-true session.number number parts.0) found in
      ap (option_and_then (λ (s : Session). s.caller)) numbered ∙ holds_it caller session.caller parts.1

  found_holds : (sessions : List Session) → option_and_then (λ (s : Session). s.caller) (find (is_numbered number) sessions) ≡ Some caller → held sessions ≡ true
  found_holds [] h = absurd (none-some caller h)
  found_holds (x ∷ xs) h = elim (cases_Bool (is_numbered number x)) [
    | inl here ↦
        let own : x.caller ≡ Some caller = rw here at h in
        or_left (is_held_by number caller x) (held xs) (and_from (eqb x.number number) (holds caller x.caller) here (it_holds caller x.caller own))
    | inr there ↦ or_right (is_held_by number caller x) (held xs) (found_holds xs (rw there at h))
  ]

  pub caller_holds : (store : Store) → caller_of number store ≡ Some caller → HoldsCaller number caller store
  caller_holds store h = found_holds store.sessions h
