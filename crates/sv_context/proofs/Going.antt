-- Sessions that go on or end, one after another in the order of their numbers.
use Rattle.std.proofs.Common.{◌≡◌, ℕ, ◌<◌, ◌≤◌, eqb, Bool, true, false, not, inl, inr, List, [], ◌∷◌, ◌++◌, map, filter, None, Some, refl, sym, ◌∙◌, ap, ltb, arith}
use Rattle.std.specs.List.{AllByRecursion, find}
use Rattle.std.proofs.lemmas.Bool.{cases_Bool, eq-eqb, eqb-true, false_from_ne_true, lt-ltb, ltb-true}
use Rattle.sv_session.specs.Lists.{on_first, without_first}
use Rattle.sv_session.specs.Store.{NumbersRise, Session, is_numbered}

not_less : (a b : ℕ) → b ≤ a → ltb a b ≡ false
not_less a b more = false_from_ne_true (ltb a b) (λ less. omega (arith, more, ltb-true a b less))

-- The numbers are at most this one.
abbrev pub AreUpTo : ℕ → List Session → Type 0
AreUpTo number sessions = AllByRecursion (λ (session : Session). session.number ≤ number) sessions

pub up_to_more : (low high : ℕ) (sessions : List Session) → low ≤ high → AreUpTo low sessions → AreUpTo high sessions
up_to_more low high [] more all = all
up_to_more low high (x ∷ xs) more all = (omega (arith, more, all.0), up_to_more low high xs more all.1)

pub up_to_last : (number : ℕ) (sessions : List Session) (last : Session) → last.number ≤ number → AreUpTo number sessions → AreUpTo number (sessions ++ last ∷ [])
up_to_last number [] last is all = (is, tt)
up_to_last number (x ∷ xs) last is all = (all.0, up_to_last number xs last is all.1)

pub rises_to : (low high : ℕ) (sessions : List Session) → NumbersRise low high sessions → low ≤ high
rises_to low high [] rise = rise
rises_to low high (x ∷ xs) rise = omega (arith, rise.0, rises_to x.number high xs rise.1)

-- The next session after those that were passed.
pub find_past : (number : ℕ) (passed rest : List Session) → AreUpTo number passed
    → find (λ (session : Session). ltb number session.number) (passed ++ rest) ≡ find (λ (session : Session). ltb number session.number) rest
find_past number [] rest all = refl
find_past number (x ∷ xs) rest all = rw (not_less number x.number all.0) (find_past number xs rest all.1)

pub none_past : (number high : ℕ) (passed rest : List Session) → AreUpTo number passed → NumbersRise number high rest
    → find (λ (session : Session). ltb number session.number) (passed ++ rest) ≡ None → rest ≡ []
none_past number high passed [] all rise is = refl
none_past number high passed (x ∷ xs) all rise is =
    let found : Some x ≡ None = sym (find_past number passed (x ∷ xs) all ∙ rw (lt-ltb number x.number rise.0) refl) ∙ is in
    cc

pub record IsNext (session : Session) (rest : List Session) : Type 0 where
  pub others : List Session
  pub are : rest ≡ session ∷ others

pub next_past : (number high : ℕ) (passed rest : List Session) (session : Session) → AreUpTo number passed → NumbersRise number high rest
    → find (λ (session : Session). ltb number session.number) (passed ++ rest) ≡ Some session → IsNext session rest
next_past number high passed [] session all rise is =
    let found : None ≡ Some session = sym (find_past number passed [] all) ∙ is in
    cc
next_past number high passed (x ∷ xs) session all rise is =
    let found : Some x ≡ Some session = sym (find_past number passed (x ∷ xs) all ∙ rw (lt-ltb number x.number rise.0) refl) ∙ is in
    record { others = xs; are = cc }

-- The session of a number that is above those that were passed.
differs : (number other : ℕ) → other < number → eqb other number ≡ false
differs number other less = false_from_ne_true (eqb other number) (λ same. omega (arith, less, eqb-true other number same))

module _ (low : ℕ) (session : Session) (above : low < session.number) (others : List Session) where
  itself : is_numbered session.number session ≡ true
  itself = eq-eqb session.number session.number refl

  pub changed_past : (change : Session → Session) (passed : List Session) → AreUpTo low passed
      → on_first (is_numbered session.number) change (passed ++ session ∷ others) ≡ passed ++ change session ∷ others
  changed_past change [] all = rw itself refl
  changed_past change (x ∷ xs) all =
      rw (differs session.number x.number (omega (arith, above, all.0))) (ap (λ rest. x ∷ rest) (changed_past change xs all.1))

  pub without_past : (passed : List Session) → AreUpTo low passed
      → without_first (is_numbered session.number) (passed ++ session ∷ others) ≡ passed ++ others
  without_past [] all = rw itself refl
  without_past (x ∷ xs) all =
      rw (differs session.number x.number (omega (arith, above, all.0))) (ap (λ rest. x ∷ rest) (without_past xs all.1))

  pub numbered_past : (passed : List Session) → AreUpTo low passed
      → find (is_numbered session.number) (passed ++ session ∷ others) ≡ Some session
  numbered_past [] all = rw itself refl
  numbered_past (x ∷ xs) all = rw (differs session.number x.number (omega (arith, above, all.0))) (numbered_past xs all.1)

-- One more session is passed.
module _ (keeps : Session → Bool) (go_on : Session → Session) where
  abbrev pub going : List Session → List Session
  going sessions = map go_on (filter keeps sessions)

  abbrev pub leaving : List Session → List Session
  leaving sessions = filter (λ session. not (keeps session)) sessions

  pub goes_on : (done : List Session) (session : Session) → keeps session ≡ true
      → (going (done ++ session ∷ []) ≡ going done ++ go_on session ∷ []) × (leaving (done ++ session ∷ []) ≡ leaving done)
  goes_on [] session is = rw is (refl, refl)
  goes_on (x ∷ xs) session is =
      let more = goes_on xs session is in
      elim (cases_Bool (keeps x)) [
        | inl stays ↦ rw stays (ap (λ rest. go_on x ∷ rest) more.0, more.1)
        | inr ends ↦ rw ends (more.0, ap (λ rest. x ∷ rest) more.1)
      ]

  pub ends : (done : List Session) (session : Session) → keeps session ≡ false
      → (going (done ++ session ∷ []) ≡ going done) × (leaving (done ++ session ∷ []) ≡ leaving done ++ session ∷ [])
  ends [] session is = rw is (refl, refl)
  ends (x ∷ xs) session is =
      let more = ends xs session is in
      elim (cases_Bool (keeps x)) [
        | inl stays ↦ rw stays (ap (λ rest. go_on x ∷ rest) more.0, more.1)
        | inr others ↦ rw others (more.0, ap (λ rest. x ∷ rest) more.1)
      ]
