-- The effect of the calls on the list of sessions, by the index of a session.
use Rattle.std.proofs.Common.{◌≡◌, ℕ, ◌+◌, ◌<◌, true, false, List, [], ◌∷◌, length, Option, Some, None, get_or, set, refl, sym, ◌∙◌, ap, subst, eq-eqb}
use Rattle.std.specs.List.{slice_get}
use Rattle.std.proofs.lemmas.List.{set-get_or}
use Rattle.std.specs.Option.{is_some, option_and_then}
use Rattle.std.proofs.lemmas.Bool.{lt-leb, ne_eqb}
use Rattle.sv_session.specs.declared.limits.TheConstants.{GREATEST_SERIAL}
use Rattle.sv_session.specs.declared.session_fault.SessionFault.TheVariants.{NoSuch, SerialSpent, TooLarge}
use Rattle.sv_session.specs.Calls.{ended, ending, is_too_large, opening_faults, renamed, renaming_faults, setting_faults, value_of, without}
use Rattle.sv_session.specs.Attributes.{value_named}
use Rattle.sv_session.specs.Id.{id_text}
use Rattle.sv_session.specs.declared.slot.Slot.{Slot}
use Rattle.sv_session.specs.Slots.{living}
use Rattle.sv_session.specs.Store.{Session, SessionsState, Store, changed, is_numbered, numbered}
use Rattle.sv_session.proofs.FirstLemmas.{IsMissed, none_found}
use Rattle.sv_session.proofs.SlotLemmas.{IsAt}

-- ---- the store of a state
module _ {inner : Store} {judged : ℕ} {state : SessionsState} (view : record { store = inner; judged = judged } ≡ state) where
  pub store_seen : inner ≡ state.store
  store_seen = ap (λ (s : SessionsState). s.store) view

  pub with_store : {left after : Store} → left ≡ after → record { store = left; judged = judged } ≡ record state { store = after }
  with_store {left} {after} same =
      ap (λ store. record { store = store; judged = judged }) same ∙ ap (λ (s : SessionsState). record s { store = after }) view

-- ---- the greatest serial
pub spent_opening : (store : Store) → store.serial ≡ GREATEST_SERIAL → length store.sessions < store.limit → opening_faults store ≡ SerialSpent ∷ []
spent_opening store spent room = rw (lt-leb store.limit (length store.sessions) room, eq-eqb store.serial GREATEST_SERIAL spent) refl

pub spent_renaming : (store : Store) → store.serial ≡ GREATEST_SERIAL → (number : ℕ) (session : Session) → numbered number store ≡ Some session
    → renaming_faults number store ≡ SerialSpent ∷ []
spent_renaming store spent number session found = rw (found, eq-eqb store.serial GREATEST_SERIAL spent) refl

-- ---- no session of the number
module _ (number : ℕ) (store : Store) (none : numbered number store ≡ None) where
  missed : IsMissed (is_numbered number) store.sessions
  missed = none_found (is_numbered number) store.sessions none

  pub nothing_changed : (f : Session → Session) → store ≡ changed number f store
  nothing_changed f = ap (λ sessions. record store { sessions = sessions }) (sym (missed.changes f))

  pub nothing_left_out : store ≡ without number store
  nothing_left_out = ap (λ sessions. record store { sessions = sessions }) (sym missed.leaves)

  pub is_not_found : false ≡ is_some (numbered number store)
  is_not_found = rw none refl

  pub nothing_read : {A : Type 0} (f : Session → Option A) → None ≡ option_and_then f (numbered number store)
  nothing_read f = rw none refl

  pub nothing_ended : None ≡ ending number store
  nothing_ended = rw none refl

  pub nothing_valued : (name : List ℕ) → None ≡ value_of number name store
  nothing_valued name = rw none refl

  pub not_renamed : slice_get (renaming_faults number store) 0 ≡ Some NoSuch
  not_renamed = rw none refl

  pub not_set : (name value : List ℕ) → slice_get (setting_faults number name value store) 0 ≡ Some NoSuch
  not_set name value = rw none refl

-- ---- the session of the number, at its index
module _ (number place limit interval serial : ℕ) (slots : List Slot) (store : Store)
    (same : record { limit = limit; interval = interval; serial = serial; sessions = living slots } ≡ store) (slot : Slot) (at : IsAt number slots place slot) where
  pub numbered_at : numbered number store ≡ Some slot.kept
  numbered_at = subst (λ s. numbered number s ≡ Some slot.kept) same at.finds

  pub left_at : (kept : Session) → record { limit = limit; interval = interval; serial = serial; sessions = living (set slots place (record { live = false; kept = kept })) } ≡ without number store
  left_at kept =
      ap (λ all. record { limit = limit; interval = interval; serial = serial; sessions = all }) (at.leaves kept) ∙ ap (without number) same

  pub is_found : true ≡ is_some (numbered number store)
  is_found = rw numbered_at refl

  pub read_at : {A : Type 0} (f : Session → Option A) → f slot.kept ≡ option_and_then f (numbered number store)
  read_at f = rw numbered_at refl

  pub ended_at : Some (ended slot.kept) ≡ ending number store
  ended_at = rw numbered_at refl

  pub value_at : (name : List ℕ) → value_named name slot.kept.attributes ≡ value_of number name store
  value_at name = rw numbered_at refl

  pub spent_at : serial ≡ GREATEST_SERIAL → slice_get (renaming_faults number store) 0 ≡ Some SerialSpent
  spent_at spent = subst (λ s. slice_get (renaming_faults number s) 0 ≡ Some SerialSpent) same (rw (at.finds, eq-eqb serial GREATEST_SERIAL spent) refl)

  pub unspent_at : (serial ≡ GREATEST_SERIAL → ⊥) → renaming_faults number store ≡ []
  unspent_at unspent = subst (λ s. renaming_faults number s ≡ []) same (rw (at.finds, ne_eqb serial GREATEST_SERIAL unspent) refl)

  pub changed_at : (f : Session → Session) (new : Session) → new ≡ f slot.kept
      → record { limit = limit; interval = interval; serial = serial; sessions = living (set slots place (record { live = slot.live; kept = new })) } ≡ changed number f store
  changed_at f new is_new =
      ap (λ kept. record { limit = limit; interval = interval; serial = serial; sessions = living (set slots place (record { live = slot.live; kept = kept })) }) is_new
      ∙ (ap (λ all. record { limit = limit; interval = interval; serial = serial; sessions = all }) (at.changes f) ∙ ap (changed number f) same)

  pub unchanged_at : slot ≡ get_or slots place slot → (new : Session) → new ≡ slot.kept
      → record { limit = limit; interval = interval; serial = serial; sessions = living (set slots place (record { live = slot.live; kept = new })) } ≡ store
  unchanged_at is new is_new =
      ap (λ kept. record { limit = limit; interval = interval; serial = serial; sessions = living (set slots place (record { live = slot.live; kept = kept })) }) is_new
      ∙ (ap (λ all. record { limit = limit; interval = interval; serial = serial; sessions = living all }) (ap (set slots place) is ∙ set-get_or slots place slot) ∙ same)

  pub renamed_at : (words : ℕ × ℕ) (new : Session) → new ≡ record slot.kept { id = id_text words (serial + 1) }
      → record { limit = limit; interval = interval; serial = serial + 1; sessions = living (set slots place (record { live = slot.live; kept = new })) } ≡ renamed number words store
  renamed_at words new is_new =
      ap (λ kept. record { limit = limit; interval = interval; serial = serial + 1; sessions = living (set slots place (record { live = slot.live; kept = kept })) }) is_new
      ∙ (ap (λ all. record { limit = limit; interval = interval; serial = serial + 1; sessions = all }) (at.changes (λ session. record session { id = id_text words (serial + 1) }))
      ∙ ap (renamed number words) same)

  pub too_large_at : (name value : List ℕ) → true ≡ is_too_large name value slot.kept.attributes → slice_get (setting_faults number name value store) 0 ≡ Some TooLarge
  too_large_at name value large = rw (numbered_at, sym large) refl

  pub fitting_at : (name value : List ℕ) → is_too_large name value slot.kept.attributes ≡ false → setting_faults number name value store ≡ []
  fitting_at name value fits = rw (numbered_at, fits) refl
