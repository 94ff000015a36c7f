-- The numbers of sessions increase: after a change, a push and a removal.
use Rattle.std.proofs.Common.{◌≡◌, ℕ, ◌+◌, ◌<◌, ◌≤◌, Bool, true, false, ◌⊎◌, inl, inr, List, [], ◌∷◌, ◌++◌, Some, refl, sym, ◌∙◌, ap, cond, eq-eqb, arith}
use Rattle.std.specs.List.{filter, find}
use Rattle.std.proofs.lemmas.Bool.{cases_Bool, ne_eqb}
use Rattle.sv_session.specs.Lists.{on_first, without_first}
use Rattle.sv_session.specs.Store.{NumbersRise, Session, is_numbered}

-- ---- bounds
pub rise_below : (low mid high : ℕ) (sessions : List Session) → low ≤ mid → NumbersRise mid high sessions → NumbersRise low high sessions
rise_below low mid high [] less rises = omega arith
rise_below low mid high (x ∷ xs) less rises = (omega (arith, rises.0), rises.1)

pub rise_above : (low high higher : ℕ) (sessions : List Session) → high ≤ higher → NumbersRise low high sessions → NumbersRise low higher sessions
rise_above low high higher [] less rises = omega arith
rise_above low high higher (x ∷ xs) less rises = (rises.0, rise_above x.number high higher xs less rises.1)

-- ---- changes of the list
pub rise_push : (low high : ℕ) (sessions : List Session) (last : Session) → last.number ≡ high + 1 → NumbersRise low high sessions
    → NumbersRise low (high + 1) (sessions ++ last ∷ [])
rise_push low high [] last next rises = (omega (arith, next), omega (arith, next))
rise_push low high (x ∷ xs) last next rises = (rises.0, rise_push x.number high xs last next rises.1)

pub rise_changed : (test : Session → Bool) (change : Session → Session) → ((session : Session) → (change session).number ≡ session.number)
    → (low high : ℕ) (sessions : List Session) → NumbersRise low high sessions → NumbersRise low high (on_first test change sessions)
rise_changed test change keeps low high [] rises = rises
rise_changed test change keeps low high (x ∷ xs) rises = elim (cases_Bool (test x)) [
  | inl passes ↦ rw (passes, keeps x) rises
  | inr fails ↦ rw fails (rises.0, rise_changed test change keeps x.number high xs rises.1)
]

pub rise_without : (test : Session → Bool) (low high : ℕ) (sessions : List Session) → NumbersRise low high sessions
    → NumbersRise low high (without_first test sessions)
rise_without test low high [] rises = rises
rise_without test low high (x ∷ xs) rises = elim (cases_Bool (test x)) [
  | inl passes ↦ rw passes (rise_below low x.number high xs (omega (arith, rises.0)) rises.1)
  | inr fails ↦ rw fails (rises.0, rise_without test x.number high xs rises.1)
]

pub rise_filter : (test : Session → Bool) (low high : ℕ) (sessions : List Session) → NumbersRise low high sessions
    → NumbersRise low high (filter test sessions)
rise_filter test low high [] rises = rises
rise_filter test low high (x ∷ xs) rises = elim (cases_Bool (test x)) [
  | inl passes ↦ rw passes (rises.0, rise_filter test x.number high xs rises.1)
  | inr fails ↦ rw fails (rise_below low x.number high (filter test xs) (omega (arith, rises.0)) (rise_filter test x.number high xs rises.1))
]

-- ---- one of the sessions
abbrev pub IsIn : Session → List Session → Type 0
IsIn session [] = ⊥
IsIn session (x ∷ xs) = (x ≡ session) ⊎ IsIn session xs

pub in_filter : (test : Session → Bool) (sessions : List Session) (session : Session) → IsIn session (filter test sessions)
    → IsIn session sessions × (test session ≡ true)
in_filter test [] session here = absurd here
in_filter test (x ∷ xs) session here = elim (cases_Bool (test x)) [
  | inl passes ↦ elim (rw passes at here) [
    | inl same ↦ (inl same, ap test (sym same) ∙ passes)
    | inr later ↦ let more = in_filter test xs session later in (inr more.0, more.1)
  ]
  | inr fails ↦ let more = in_filter test xs session (rw fails at here) in (inr more.0, more.1)
]

pub above_all : (low high : ℕ) (sessions : List Session) (session : Session) → NumbersRise low high sessions → IsIn session sessions → low < session.number
above_all low high [] session rises here = absurd here
above_all low high (x ∷ xs) session rises here = elim here [
  | inl same ↦ let equal : x.number ≡ session.number = ap (λ s. s.number) same in omega (arith, rises.0, equal)
  | inr later ↦ let more : x.number < session.number = above_all x.number high xs session rises.1 later in omega (arith, rises.0, more)
]

-- The session has its own number, and those before it have others.
pub is_itself : (x session : Session) → x ≡ session → is_numbered session.number x ≡ true
is_itself x session same = eq-eqb x.number session.number (ap (λ s. s.number) same)

pub is_another : (x session : Session) (high : ℕ) (xs : List Session) → NumbersRise x.number high xs → IsIn session xs → is_numbered session.number x ≡ false
is_another x session high xs rises later =
    let more : x.number < session.number = above_all x.number high xs session rises later in
    ne_eqb x.number session.number (λ equal. omega (arith, more, equal))

pub find_in : (low high : ℕ) (sessions : List Session) (session : Session) → NumbersRise low high sessions → IsIn session sessions
    → find (is_numbered session.number) sessions ≡ Some session
find_in low high [] session rises here = absurd here
find_in low high (x ∷ xs) session rises here = elim here [
  | inl same ↦ rw (is_itself x session same) (ap Some same)
  | inr later ↦ rw (is_another x session high xs rises.1 later) (find_in x.number high xs session rises.1 later)
]

pub filter_without : (test : Session → Bool) (low high : ℕ) (sessions : List Session) (session : Session) → NumbersRise low high sessions
    → IsIn session sessions → test session ≡ true
    → filter test (without_first (is_numbered session.number) sessions) ≡ without_first (is_numbered session.number) (filter test sessions)
filter_without test low high [] session rises here passes = absurd here
filter_without test low high (x ∷ xs) session rises here passes = elim here [
  | inl same ↦ rw (is_itself x session same, ap test same ∙ passes, is_itself x session same) refl
  | inr later ↦ elim (cases_Bool (test x)) [
    | inl kept ↦ rw (is_another x session high xs rises.1 later, kept, is_another x session high xs rises.1 later)
        (ap (λ rest. x ∷ rest) (filter_without test x.number high xs session rises.1 later passes))
    | inr left ↦ rw (is_another x session high xs rises.1 later, left) (filter_without test x.number high xs session rises.1 later passes)
  ]
]

pub filter_same : (test : Session → Bool) (low high : ℕ) (sessions : List Session) (session : Session) → NumbersRise low high sessions
    → IsIn session sessions → test session ≡ false
    → filter test (without_first (is_numbered session.number) sessions) ≡ filter test sessions
filter_same test low high [] session rises here fails = absurd here
filter_same test low high (x ∷ xs) session rises here fails = elim here [
  | inl same ↦ rw (is_itself x session same, ap test same ∙ fails) refl
  | inr later ↦ rw (is_another x session high xs rises.1 later)
      (ap (λ rest. cond (test x) (x ∷ rest) rest) (filter_same test x.number high xs session rises.1 later fails))
]
