-- The session of a login, among the sessions of its context.
use Rattle.std.proofs.Common.{◌≡◌, ℕ, ◌+◌, ◌<◌, ◌≤◌, Bool, true, false, inl, inr, List, [], ◌∷◌, ◌++◌, Option, Some, None, refl, sym, ◌∙◌, ap, subst, eqb, eq-eqb, arith}
use Rattle.std.specs.Bool.{then_some}
use Rattle.std.specs.List.{find}
use Rattle.std.specs.Option.{is_some, option_map, option_map_or, unwrap_or}
use Rattle.std.proofs.lemmas.Bool.{cases_Bool, ne_eqb}
use Rattle.std.proofs.lemmas.Option.{none-some, same_Some}
use Rattle.sv_session.specs.Calls.{opened, renamed, session_opened}
use Rattle.sv_session.specs.Id.{id_text}
use Rattle.sv_session.specs.Lists.{on_first}
use Rattle.sv_session.specs.Store.{IsOrderly, NumbersRise, Session, Store, changed, is_numbered, numbered}
use Rattle.sv_login.specs.Session.{living, logged_in, session_number, with_session}

-- ---- The first session with a number.
find_changed : (number : ℕ) (change : Session → Session) → ((session : Session) → (change session).number ≡ session.number)
    → (sessions : List Session) → find (is_numbered number) (on_first (is_numbered number) change sessions) ≡ option_map change (find (is_numbered number) sessions)
find_changed number change keeps [] = refl
find_changed number change keeps (x ∷ xs) = elim (cases_Bool (is_numbered number x)) [
  | inl passes ↦ rw (passes, keeps x, passes) refl
  | inr fails ↦ rw (fails, fails) (find_changed number change keeps xs)
]

pub numbered_changed : (number : ℕ) (change : Session → Session) → ((session : Session) → (change session).number ≡ session.number)
    → (store : Store) → numbered number (changed number change store) ≡ option_map change (numbered number store)
numbered_changed number change keeps store = find_changed number change keeps store.sessions

find_pushed : (test : Session → Bool) (sessions : List Session) (last : Session) → test last ≡ true
    → (session : Session) × (find test (sessions ++ last ∷ []) ≡ Some session)
find_pushed test [] last passes = (last, rw passes refl)
find_pushed test (x ∷ xs) last passes = elim (cases_Bool (test x)) [
  | inl here ↦ (x, rw here refl)
  | inr other ↦ (let found = find_pushed test xs last passes in (found.0, rw other found.1))
]

find_last : (test : Session → Bool) (sessions : List Session) (last : Session) → find test sessions ≡ None → test last ≡ true
    → find test (sessions ++ last ∷ []) ≡ Some last
find_last test [] last none passes = rw passes refl
find_last test (x ∷ xs) last none passes = elim (cases_Bool (test x)) [
  | inl here ↦ absurd (none-some x (sym (rw here at none)))
  | inr other ↦ rw other (find_last test xs last (rw other at none) passes)
]

rise_bound : (low high : ℕ) (sessions : List Session) → NumbersRise low high sessions → low ≤ high
rise_bound low high [] rises = rises
rise_bound low high (x ∷ xs) rises = omega (arith, rises.0, rise_bound x.number high xs rises.1)

none_above : (number low high : ℕ) (sessions : List Session) → NumbersRise low high sessions → high < number → find (is_numbered number) sessions ≡ None
none_above number low high [] rises above = refl
none_above number low high (x ∷ xs) rises above =
    let bound : x.number ≤ high = rise_bound x.number high xs rises.1 in
    let other : eqb x.number number ≡ false = ne_eqb x.number number (λ equal. omega (arith, equal, bound, above)) in
    rw other (none_above number x.number high xs rises.1 above)

-- ---- A held session that is live.
lives_as : (number wanted : ℕ) (store : Store) (found : Option Session) → numbered number store ≡ found → then_some (is_some found) number ≡ Some wanted
    → (session : Session) × (numbered wanted store ≡ Some session)
lives_as number wanted store None is same = absurd (none-some wanted same)
lives_as number wanted store (Some session) is same = (session, subst (λ n. numbered n store ≡ Some session) (same_Some number wanted same) is)

lives : (held : Option ℕ) (store : Store) (wanted : ℕ) → living held store ≡ Some wanted → (session : Session) × (numbered wanted store ≡ Some session)
lives None store wanted living_as = absurd (none-some wanted living_as)
lives (Some number) store wanted living_as = lives_as number wanted store (numbered number store) refl living_as

-- ---- The session of a login.
module _ (held : Option ℕ) (words : ℕ × ℕ) (now : ℕ) (store : Store) where
  by_living : (found : Option ℕ) → living held store ≡ found
      → (session : Session) × (numbered (unwrap_or found (store.serial + 1)) (option_map_or (λ number. renamed number words store) found (opened words now store)) ≡ Some session)
  by_living None is = find_pushed (is_numbered (store.serial + 1)) store.sessions (session_opened words (store.serial + 1) now) (eq-eqb (store.serial + 1) (store.serial + 1) refl)
  by_living (Some number) is =
      let found = lives held store number is in (
        record found.0 { id = id_text words (store.serial + 1) },
        numbered_changed number (λ session. record session { id = id_text words (store.serial + 1) }) (λ session. refl) store
            ∙ ap (option_map (λ (session : Session). record session { id = id_text words (store.serial + 1) })) found.1,
      )

  there : (session : Session) × (numbered (session_number held store) (with_session held words now store) ≡ Some session)
  there = by_living (living held store) refl

  -- The session holds the caller.
  pub entered : (user : Option ℕ) → (session : Session) × (numbered (session_number held store) (logged_in user held words now store) ≡ Some session) × (session.caller ≡ user)
  entered user = (
    record there.0 { saved = None; caller = user },
    numbered_changed (session_number held store) (λ session. record session { caller = user }) (λ session. refl)
        (changed (session_number held store) (λ session. record session { saved = None }) (with_session held words now store))
        ∙ ap (option_map (λ (session : Session). record session { caller = user }))
        (numbered_changed (session_number held store) (λ session. record session { saved = None }) (λ session. refl) (with_session held words now store)
        ∙ ap (option_map (λ (session : Session). record session { saved = None })) there.1),
    refl,
  )

  -- The session has the next id.
  new_by_living : IsOrderly store → (found : Option ℕ) → living held store ≡ found
      → (session : Session) × (numbered (unwrap_or found (store.serial + 1)) (option_map_or (λ number. renamed number words store) found (opened words now store)) ≡ Some session)
      × (session.id ≡ id_text words (store.serial + 1))
  unfolding by_living
  new_by_living orderly None is = (
    session_opened words (store.serial + 1) now,
    find_last (is_numbered (store.serial + 1)) store.sessions (session_opened words (store.serial + 1) now)
        (none_above (store.serial + 1) 0 store.serial store.sessions orderly (omega arith)) (eq-eqb (store.serial + 1) (store.serial + 1) refl),
    refl,
  )
  new_by_living orderly (Some number) is =
      let found = by_living (Some number) is in (found.0, found.1, refl)

  pub renewed_id : IsOrderly store → (user : Option ℕ)
      → (session : Session) × (numbered (session_number held store) (logged_in user held words now store) ≡ Some session) × (session.id ≡ id_text words (store.serial + 1))
  renewed_id orderly user =
      let found = new_by_living orderly (living held store) refl in (
        record found.0 { saved = None; caller = user },
        numbered_changed (session_number held store) (λ session. record session { caller = user }) (λ session. refl)
            (changed (session_number held store) (λ session. record session { saved = None }) (with_session held words now store))
            ∙ ap (option_map (λ (session : Session). record session { caller = user }))
            (numbered_changed (session_number held store) (λ session. record session { saved = None }) (λ session. refl) (with_session held words now store)
            ∙ ap (option_map (λ (session : Session). record session { saved = None })) found.1),
        found.2,
      )
