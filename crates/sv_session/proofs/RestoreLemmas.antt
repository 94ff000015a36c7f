-- The sessions that can follow those of a store.
use Rattle.std.proofs.Common.{Bor, ◌≡◌, ◌≢◌, ℕ, ◌+◌, ◌<◌, ◌≤◌, true, false, inl, inr, List, [], ◌∷◌, ◌++◌, Option, Some, None, refl, sym, ◌∙◌, subst, ltb, arith}
use Rattle.std.specs.List.{AllByRecursion, find}
use Rattle.std.specs.Option.{is_some, option_copied, option_map}
use Rattle.std.proofs.lemmas.Bool.{both_ways, cases_Bool, false_from_ne_true, ltb-false, ltb-true}
use Rattle.std.proofs.lemmas.Slice.Eq.{bytes_eq-Decides}
use Rattle.sv_session.specs.declared.limits.TheConstants.{GREATEST_SERIAL}
use Rattle.sv_session.specs.Ids.{IdsDiffer, IsGiven, NoneHas}
use Rattle.sv_session.specs.Restoring.{CanBeRestored, CanFollow, session_after}
use Rattle.sv_session.specs.Store.{IsOrderly, NumbersRise, Session, Store, has_id, number_of}
use Rattle.sv_session.proofs.LiveIdLemmas.{another}

-- ---- numbers above those of the others
none_above : (below number : ℕ) (sessions : List Session) → below + 1 ≡ number → find (λ (s : Session). ltb below s.number) sessions ≡ None
    → AllByRecursion (λ (s : Session). s.number < number) sessions
none_above below number [] next none = tt
none_above below number (x ∷ xs) next none = elim (cases_Bool (ltb below x.number)) [
  | inl passes ↦ let found : Some x ≡ None = rw passes at none in absurd (cc)
  | inr fails ↦ (omega (arith, next, ltb-false below x.number fails), none_above below number xs next (rw fails at none))
]

all_below : (below number : ℕ) (sessions : List Session) → below + 1 ≡ number → AllByRecursion (λ (s : Session). s.number < number) sessions
    → find (λ (s : Session). ltb below s.number) sessions ≡ None
all_below below number [] next all = refl
all_below below number (x ∷ xs) next all =
    let fails : ltb below x.number ≡ false = false_from_ne_true (ltb below x.number) (λ less. omega (arith, next, all.0, ltb-true below x.number less)) in
    rw fails (all_below below number xs next all.1)

-- ---- ids that no session has
none_numbered : (id : List ℕ) (sessions : List Session) → option_map (λ (s : Session). s.number) (find (has_id id) sessions) ≡ None → NoneHas id sessions
none_numbered id [] none = tt
none_numbered id (x ∷ xs) none = elim (cases_Bool (has_id id x)) [
  | inl has ↦ let found : Some x.number ≡ None = rw has at none in absurd (cc)
  | inr other ↦ (λ same. both_ways (has_id id x) other ((bytes_eq-Decides x.id id).1 same), none_numbered id xs (rw other at none))
]

none_with_id : (id : List ℕ) (sessions : List Session) → NoneHas id sessions → option_map (λ (s : Session). s.number) (find (has_id id) sessions) ≡ None
none_with_id id [] none = refl
none_with_id id (x ∷ xs) none = rw (another x.id id none.0) (none_with_id id xs none.1)

-- ---- a session that can follow
module _ (store : Store) (session : Session) where
  pub can_follow : (below : ℕ) → below + 1 ≡ session.number → session_after below store ≡ None → number_of session.id store ≡ None
      → session.number ≤ store.serial → IsGiven store.serial session.id → CanFollow store session
  can_follow below next after named used given = record {
    above = none_above below session.number store.sessions next after;
    positive = omega (arith, next);
    used = used;
    given = given;
    differs = none_numbered session.id store.sessions named;
  }

  pub is_last : CanFollow store session → (below : ℕ) → below + 1 ≡ session.number → session_after below store ≡ None
  is_last follows below next = all_below below session.number store.sessions next follows.above

  pub is_unnamed : CanFollow store session → number_of session.id store ≡ None
  is_unnamed follows = none_with_id session.id store.sessions follows.differs

-- ---- found or not
pub some_not_none : {A : Type 0} (found : Option A) → is_some found ≡ true → found ≡ None → ⊥
some_not_none (Some x) some none = cc
some_not_none None some none = cc

pub none_if_not_some : {A : Type 0} (found : Option A) → is_some found ≡ false → found ≡ None
none_if_not_some (Some x) some = absurd (cc)
none_if_not_some None some = refl

pub copied_not_none : (found : Option (Bor Session)) (copied : Option Session) → option_copied found ≡ copied → is_some found ≡ true → copied ≡ None → ⊥
copied_not_none (Some x) copied is some none = cc (is ∙ none)
copied_not_none None copied is some none = cc

pub none_copied : (found : Option (Bor Session)) (copied : Option Session) → option_copied found ≡ copied → is_some found ≡ false → copied ≡ None
none_copied (Some x) copied is some = absurd (cc)
none_copied None copied is some = sym is

pub given_as : (bound other : ℕ) (id text : List ℕ) → bound ≡ other → id ≡ text → IsGiven bound id → IsGiven other text
given_as bound other id text same equal given = subst (λ n. IsGiven n text) same (subst (IsGiven bound) equal given)

-- ---- the sessions of a store follow one another
high_above : (low high : ℕ) (sessions : List Session) → NumbersRise low high sessions → low ≤ high
high_above low high [] rise = rise
high_above low high (x ∷ xs) rise = omega (arith, rise.0, high_above x.number high xs rise.1)

rise_split : (low high : ℕ) (front : List Session) (session : Session) (rest : List Session) → NumbersRise low high (front ++ session ∷ rest)
    → AllByRecursion (λ (s : Session). s.number < session.number) front × (low < session.number) × (session.number ≤ high)
rise_split low high [] session rest rise = (tt, rise.0, high_above session.number high rest rise.1)
rise_split low high (x ∷ xs) session rest rise =
    let more = rise_split x.number high xs session rest rise.1 in
    ((more.1, more.0), omega (arith, rise.0, more.1), more.2)

other_id : (id : List ℕ) (front : List Session) (session : Session) (rest : List Session) → NoneHas id (front ++ session ∷ rest) → session.id ≢ id
other_id id [] session rest none = none.0
other_id id (x ∷ xs) session rest none = other_id id xs session rest none.1

differ_split : (bound : ℕ) (front : List Session) (session : Session) (rest : List Session) → IdsDiffer bound (front ++ session ∷ rest)
    → IsGiven bound session.id × NoneHas session.id front
differ_split bound [] session rest differ = (differ.0, tt)
differ_split bound (x ∷ xs) session rest differ =
    let more = differ_split bound xs session rest differ.2 in
    (more.0, (λ same. other_id x.id xs session rest differ.1 (sym same), more.1))

pub can_be_restored : (store : Store) → store.serial ≤ GREATEST_SERIAL → IsOrderly store → IdsDiffer store.serial store.sessions → CanBeRestored store
can_be_restored store fits rise differ = (
  fits,
  λ front session rest same.
      let numbers = rise_split 0 store.serial front session rest (subst (NumbersRise 0 store.serial) same rise) in
      let ids = differ_split store.serial front session rest (subst (IdsDiffer store.serial) same differ) in
      record { above = numbers.0; positive = numbers.1; used = numbers.2; given = ids.0; differs = ids.1 },
)
