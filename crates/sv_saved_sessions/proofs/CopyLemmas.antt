-- Copies that are made a part at a time.
use Rattle.std.proofs.Common.{Bor, ◌≡◌, ℕ, zero, suc, ◌+◌, ◌<◌, ◌≤◌, true, false, ltb, inl, inr, List, [], ◌∷◌, ◌++◌, take, drop, Option, Some, None, Err, refl, sym, ap, subst, ◌∙◌, append_assoc, arith}
use Rattle.std.specs.Prelude.{IsErrOf, filter, find, max, min, nat_lt, slice_get}
use Rattle.std.specs.List.{AllByRecursion, Contains}
use Rattle.std.specs.Option.{is_some, option_copied, option_map}
use Rattle.std.proofs.lemmas.Bool.{cases_Bool, le-ltb, lt-ltb, ltb-false, ltb-true}
use Rattle.std.proofs.lemmas.List.{append-nil}
use Rattle.sv_session.specs.Restoring.{CanFollow, session_after, with_last, with_used}
use Rattle.sv_session.specs.declared.restore_fault.RestoreFault.{RestoreFault}
use Rattle.sv_session.specs.declared.restore_fault.RestoreFault.TheVariants.{NoMemory, Unfit}
use Rattle.sv_session.specs.declared.limits.TheConstants.{GREATEST_SERIAL}
use Rattle.sv_session.specs.Store.{IsOrderly, NumbersRise, Session, SessionsState, Store}
use Rattle.sv_saved_sessions.specs.Copying.{CanFollowAll, CopiesAreOrderly, CopiesStoodInTheStore, Part, StoodInOne, copies_after, last_number, next_part, part_after, with_copies}
use Rattle.sv_saved_sessions.proofs.After.{above, first_above, next_after, same_item}

-- ---- the sessions above a number
abbrev pub above_all : ℕ → List Session → List Session
above_all after sessions = filter (λ session. nat_lt after session.number) sessions

-- Those above a higher number are among them.
pub find_among : (after number : ℕ) (sessions : List Session) → after ≤ number
    → find (λ session. nat_lt number session.number) (above_all after sessions) ≡ find (λ session. nat_lt number session.number) sessions
find_among after number [] le = refl
find_among after number (x ∷ xs) le = elim (cases_Bool (ltb after x.number)) [
  | inl passes ↦ elim (cases_Bool (ltb number x.number)) [ inl more ↦ rw (passes, more) refl | inr less ↦ rw (passes, less) (find_among after number xs le) ]
  | inr fails ↦
      let less : ltb number x.number ≡ false = le-ltb number x.number (omega (arith, le, ltb-false after x.number fails)) in
      rw (fails, less) (find_among after number xs le)
]

rise_further : (low high more : ℕ) (sessions : List Session) → NumbersRise low high sessions → high ≤ more → NumbersRise low more sessions
rise_further low high more [] rise le = omega (arith, rise, le)
rise_further low high more (x ∷ xs) rise le = (rise.0, rise_further x.number high more xs rise.1 le)

all_are_above : (after low high : ℕ) (sessions : List Session) → after ≤ low → NumbersRise low high sessions → above_all after sessions ≡ sessions
all_are_above after low high [] le rise = refl
all_are_above after low high (x ∷ xs) le rise =
    rw (lt-ltb after x.number (omega (arith, le, rise.0))) (ap (λ (rest : List Session). x ∷ rest) (all_are_above after x.number high xs (omega (arith, le, rise.0)) rise.1))

pub above_rise : (after low high : ℕ) (sessions : List Session) → NumbersRise low high sessions → NumbersRise after (after + high) (above_all after sessions)
above_rise after low high [] rise = omega arith
above_rise after low high (x ∷ xs) rise = elim (cases_Bool (ltb after x.number)) [
  | inl passes ↦
      let lt = ltb-true after x.number passes in
      let rest : NumbersRise x.number (after + high) xs = rise_further x.number high (after + high) xs rise.1 (omega arith) in
      let same = all_are_above after x.number high xs (omega (arith, lt)) rise.1 in
      rw passes (lt, subst (λ (others : List Session). NumbersRise x.number (after + high) others) (sym same) rest)
  | inr fails ↦ rw fails (above_rise after x.number high xs rise.1)
]

-- ---- lists up to a place
one_taken : {A : Type 0} (items : List A) (place : ℕ) (item : A) → slice_get items place ≡ Some item → take (suc place) items ≡ take place items ++ item ∷ []
one_taken [] place item is = absurd cc
one_taken (x ∷ xs) zero item is = ap (λ (first : _). first ∷ []) (same_item x item is)
one_taken (x ∷ xs) (suc place) item is = ap (λ (rest : List _). x ∷ rest) (one_taken xs place item is)

one_left : {A : Type 0} (items : List A) (place count : ℕ) (item : A) → slice_get items place ≡ Some item → place < count
    → drop place (take count items) ≡ item ∷ drop (suc place) (take count items)
one_left [] place count item is lt = absurd cc
one_left items place zero item is lt = absurd (omega (arith, lt))
one_left (x ∷ xs) zero (suc count) item is lt = ap (λ (first : _). first ∷ take count xs) (same_item x item is)
one_left (x ∷ xs) (suc place) (suc count) item is lt = one_left xs place count item is (omega (arith, lt))

none_left : {A : Type 0} (items : List A) (place count : ℕ) → slice_get items place ≡ None → place ≤ count → take count items ≡ take place items
none_left [] zero zero none le = refl
none_left [] zero (suc count) none le = refl
none_left [] (suc place) zero none le = refl
none_left [] (suc place) (suc count) none le = refl
none_left (x ∷ xs) zero count none le = absurd cc
none_left (x ∷ xs) (suc place) zero none le = absurd (omega (arith, le))
none_left (x ∷ xs) (suc place) (suc count) none le = ap (λ (rest : List _). x ∷ rest) (none_left xs place count none (omega (arith, le)))

last_of_more : (before : ℕ) (sessions : List Session) (session : Session) → last_number before (sessions ++ session ∷ []) ≡ session.number
last_of_more before [] session = refl
last_of_more before (x ∷ xs) session = last_of_more x.number xs session

-- ---- a part that is being copied
abbrev pub with_part : SessionsState → List Session → ℕ → SessionsState
with_part before part serial = record before { store = with_copies part serial before.store }

pub record IsCopiedUpTo (after count : ℕ) (store : Store) (before : SessionsState) (place last : ℕ) (copies : SessionsState) : Type 0 where
  pub within : place ≤ count
  pub copied : copies ≡ with_part before (take place (above_all after store.sessions)) store.serial
  pub last_is : last ≡ last_number after (take place (above_all after store.sessions))
  pub next : session_after last store ≡ slice_get (above_all after store.sessions) place
  pub follow : CanFollowAll (with_used store.serial before.store) (part_after after count store) → CanFollowAll copies.store (drop place (part_after after count store))

module _ (after count : ℕ) (store : Store) (before : SessionsState) where
  pub copying_begun : (copies : SessionsState) → IsOrderly store → copies ≡ record before { store = with_used store.serial before.store } → IsCopiedUpTo after count store before 0 after copies
  copying_begun copies rise is = record {
    within = omega arith;
    copied = is ∙ ap (λ (sessions : List Session). record before { store = record (with_used store.serial before.store) { sessions = sessions } }) (sym (append-nil before.store.sessions));
    last_is = refl;
    next = sym (find_among after after store.sessions (omega arith)) ∙ first_above after (after + store.serial) (above_all after store.sessions) (above_rise after 0 store.serial store.sessions rise);
    follow = λ all. subst (λ (state : SessionsState). CanFollowAll state.store (part_after after count store)) (sym is) all;
  }

  pub copied_more : (place last : ℕ) (session : Session) (copies next : SessionsState) → IsOrderly store → place < count
      → IsCopiedUpTo after count store before place last copies → session_after last store ≡ Some session → next ≡ record copies { store = with_last session copies.store }
      → IsCopiedUpTo after count store before (place + 1) session.number next
  copied_more place last session copies next rise lt up is same =
      let all = above_all after store.sessions in
      let here = sym up.next ∙ is in
      let rises = above_rise after 0 store.serial store.sessions rise in
      let higher = above after (after + store.serial) all place session rises here in
      let next_place : suc place ≡ place + 1 = omega arith in
      let one = subst (λ (n : ℕ). take n all ≡ take place all ++ session ∷ []) next_place (one_taken all place session here) in
      let with_one = ap (λ (state : SessionsState). record state { store = with_last session state.store }) up.copied in
      let regrouped = append_assoc before.store.sessions (take place all) (session ∷ []) ∙ ap (λ (part : List Session). before.store.sessions ++ part) (sym one) in
      record {
        within = omega (arith, lt);
        copied = same ∙ with_one ∙ ap (λ (sessions : List Session). record before { store = record (with_used store.serial before.store) { sessions = sessions } }) regrouped;
        last_is = sym (ap (last_number after) one ∙ last_of_more after (take place all) session);
        next = sym (find_among after session.number store.sessions (omega (arith, higher))) ∙ next_after after (after + store.serial) all place session rises here
            ∙ ap (λ (n : ℕ). slice_get all n) next_place;
        follow = λ can.
            let rest = subst (λ (left : List Session). CanFollowAll copies.store left) (one_left all place count session here lt) (up.follow can) in
            let left = subst (λ (n : ℕ). CanFollowAll (with_last session copies.store) (drop n (take count all))) next_place rest.1 in
            subst (λ (state : SessionsState). CanFollowAll state.store (drop (place + 1) (take count all))) (sym same) left;
      }

  pub all_copied : (place last : ℕ) (copies : SessionsState) → IsCopiedUpTo after count store before place last copies → session_after last store ≡ None
      → (copies ≡ with_part before (part_after after count store) store.serial) × (None ≡ next_part after count store)
  all_copied place last copies up none =
      let all = above_all after store.sessions in
      let same = none_left all place count (sym up.next ∙ none) up.within in
      let last_same : last ≡ last_number after (take count all) = up.last_is ∙ ap (last_number after) (sym same) in (
        up.copied ∙ ap (λ (part : List Session). with_part before part store.serial) (sym same),
        ap (λ (found : Option Session). option_map (λ (s : Session). last_number after (take count all)) found) (sym (ap (λ (n : ℕ). session_after n store) (sym last_same) ∙ none)),
      )

  pub part_copied : (place last : ℕ) (copies : SessionsState) → count ≤ place → IsCopiedUpTo after count store before place last copies
      → (copies ≡ with_part before (part_after after count store) store.serial) × (option_map (λ (s : Session). last) (session_after last store) ≡ next_part after count store)
  part_copied place last copies le up =
      let all = above_all after store.sessions in
      let same : place ≡ count = omega (arith, le, up.within) in
      let last_same : last ≡ last_number after (take count all) = up.last_is ∙ ap (λ (n : ℕ). last_number after (take n all)) same in (
        up.copied ∙ ap (λ (n : ℕ). with_part before (take n all) store.serial) same,
        ap (λ (n : ℕ). option_map (λ (s : Session). n) (session_after n store)) last_same,
      )

  pub cannot_follow : (place last : ℕ) (session : Session) (copies : SessionsState) → place < count → IsCopiedUpTo after count store before place last copies
      → session_after last store ≡ Some session → (CanFollow copies.store session → ⊥) → CanFollowAll (with_used store.serial before.store) (part_after after count store) → ⊥
  cannot_follow place last session copies lt up is cannot can =
      let here = sym up.next ∙ is in
      let rest = subst (λ (left : List Session). CanFollowAll copies.store left) (one_left (above_all after store.sessions) place count session here lt) (up.follow can) in
      cannot rest.0

-- The fault of a session is that of its part.
pub unfit_too : (fault : RestoreFault) → IsErrOf {T = Option ℕ} (Err fault) Unfit → IsErrOf {T = Unit {0}} (Err fault) Unfit
unfit_too NoMemory is = absurd cc
unfit_too Unfit is = refl

pub some_is_left : (last : ℕ) (found : Option (Bor Session)) (copied : Option Session) → option_copied found ≡ copied → is_some found ≡ true
    → Some last ≡ option_map (λ (s : Session). last) copied
some_is_left last (Some x) copied is some = ap (λ (o : Option Session). option_map (λ (s : Session). last) o) is
some_is_left last None copied is some = absurd cc

pub none_is_left : (last : ℕ) (found : Option (Bor Session)) (copied : Option Session) → option_copied found ≡ copied → is_some found ≡ false
    → None ≡ option_map (λ (s : Session). last) copied
none_is_left last (Some x) copied is none = absurd cc
none_is_left last None copied is none = ap (λ (o : Option Session). option_map (λ (s : Session). last) o) is

-- ---- copies stood in the store
module _ {A : Type 0} where
  all_more : (P Q : A → Type 0) (items : List A) → ((item : A) → P item → Q item) → AllByRecursion P items → AllByRecursion Q items
  all_more P Q [] more all = tt
  all_more P Q (x ∷ xs) more all = (more x all.0, all_more P Q xs more all.1)

  all_joined : (P : A → Type 0) (items others : List A) → AllByRecursion P items → AllByRecursion P others → AllByRecursion P (items ++ others)
  all_joined P [] others all rest = rest
  all_joined P (x ∷ xs) others all rest = (all.0, all_joined P xs others all.1 rest)

  all_taken : (P : A → Type 0) (items : List A) (count : ℕ) → AllByRecursion P items → AllByRecursion P (take count items)
  all_taken P [] zero all = tt
  all_taken P [] (suc count) all = tt
  all_taken P (x ∷ xs) zero all = tt
  all_taken P (x ∷ xs) (suc count) all = (all.0, all_taken P xs count all.1)

  contained : (items : List A) → AllByRecursion (Contains items) items
  contained [] = tt
  contained (x ∷ xs) = (
    (0, omega arith, refl),
    all_more (Contains xs) (Contains (x ∷ xs)) xs (λ item has. (suc has.0, omega (arith, has.1), has.2)) (contained xs),
  )

all_passed : (P : Session → Type 0) (after : ℕ) (items : List Session) → AllByRecursion P items → AllByRecursion P (above_all after items)
all_passed P after [] all = tt
all_passed P after (x ∷ xs) all = elim (cases_Bool (ltb after x.number)) [
  | inl passes ↦ rw passes (all.0, all_passed P after xs all.1)
  | inr fails ↦ rw fails (all_passed P after xs all.1)
]

all_of_part : (P : Session → Type 0) (after count : ℕ) (store : Store) → AllByRecursion P store.sessions → AllByRecursion P (part_after after count store)
all_of_part P after count store all = all_taken P (above_all after store.sessions) count (all_passed P after store.sessions all)

stood : (whole : List Part) (after : ℕ) (parts : List Part) (copies : Store) → AllByRecursion (Contains whole) parts → AllByRecursion (StoodInOne whole) copies.sessions
    → AllByRecursion (StoodInOne whole) (copies_after after parts copies).sessions
stood whole after [] copies among all = all
stood whole after (part ∷ parts) copies among all =
    let sessions = part_after after part.count part.store in
    let next = with_copies sessions part.store.serial copies in
    let own = all_more (Contains part.store.sessions) (StoodInOne whole) sessions (λ session has. (part, among.0, has))
    (all_of_part (Contains part.store.sessions) after part.count part.store (contained part.store.sessions)) in
    stood whole (last_number after sessions) parts next among.1 (all_joined (StoodInOne whole) copies.sessions sessions all own)

pub copies_stood_in_the_store : CopiesStoodInTheStore
copies_stood_in_the_store parts copies none =
    stood parts 0 parts copies (contained parts) (subst (λ (sessions : List Session). AllByRecursion (StoodInOne parts) sessions) (sym none) tt)

-- ---- their numbers rise
rise_from_lower : (lower low high : ℕ) (sessions : List Session) → lower ≤ low → NumbersRise low high sessions → NumbersRise lower high sessions
rise_from_lower lower low high [] le rise = omega (arith, le, rise)
rise_from_lower lower low high (x ∷ xs) le rise = (omega (arith, le, rise.0), rise.1)

rise_joined : (low middle high : ℕ) (sessions others : List Session) → NumbersRise low middle sessions → NumbersRise middle high others → NumbersRise low high (sessions ++ others)
rise_joined low middle high [] others rise later = rise_from_lower low middle high others rise later
rise_joined low middle high (x ∷ xs) others rise later = (rise.0, rise_joined x.number middle high xs others rise.1 later)

rise_taken : (low high count : ℕ) (sessions : List Session) → NumbersRise low high sessions → NumbersRise low (last_number low (take count sessions)) (take count sessions)
rise_taken low high zero [] rise = omega arith
rise_taken low high (suc count) [] rise = omega arith
rise_taken low high zero (x ∷ xs) rise = omega arith
rise_taken low high (suc count) (x ∷ xs) rise = (rise.0, rise_taken x.number high count xs rise.1)

all_within : (low high : ℕ) (sessions : List Session) → NumbersRise low high sessions → (low ≤ high) × AllByRecursion (λ session. session.number ≤ high) sessions
all_within low high [] rise = (rise, tt)
all_within low high (x ∷ xs) rise = let more = all_within x.number high xs rise.1 in (omega (arith, rise.0, more.0), more)

last_within : (before high : ℕ) (sessions : List Session) → AllByRecursion (λ session. session.number ≤ high) sessions → last_number before sessions ≤ max before high
last_within before high [] all = omega arith
last_within before high (x ∷ xs) all = let more = last_within x.number high xs all.1 in omega (arith, more, all.0)

orderly : (after : ℕ) (parts : List Part) (copies : Store) → NumbersRise 0 after copies.sessions → after ≤ min copies.serial GREATEST_SERIAL
    → AllByRecursion (λ part. IsOrderly part.store × (part.store.serial ≤ GREATEST_SERIAL)) parts
    → IsOrderly (copies_after after parts copies)
orderly after [] copies rise within all = rise_further 0 after copies.serial copies.sessions rise (omega (arith, within))
orderly after (part ∷ parts) copies rise within all =
    let sessions = part_after after part.count part.store in
    let last = last_number after sessions in
    let next = with_copies sessions part.store.serial copies in
    let rises = rise_taken after (after + part.store.serial) part.count (above_all after part.store.sessions) (above_rise after 0 part.store.serial part.store.sessions all.0.0) in
    let greatest = last_within after part.store.serial sessions
    (all_of_part (λ session. session.number ≤ part.store.serial) after part.count part.store (all_within 0 part.store.serial part.store.sessions all.0.0).1) in
    orderly last parts next (rise_joined 0 after last copies.sessions sessions rise rises) (omega (arith, within, greatest, all.0.1)) all.1

pub copies_are_orderly : CopiesAreOrderly
copies_are_orderly parts copies none all =
    orderly 0 parts copies (subst (λ (sessions : List Session). NumbersRise 0 0 sessions) (sym none) (omega arith)) (omega arith) all
