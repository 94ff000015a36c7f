-- The sessions in their slots, by index.
use Rattle.std.proofs.Common.{◌≡◌, ℕ, zero, suc, ◌<◌, ◌≤◌, true, false, ◌⊎◌, inl, inr, List, [], ◌∷◌, length, set, get_or, None, Some, refl, sym, ◌∙◌, ap, subst, eq-eqb, arith}
use Rattle.std.specs.List.{find}
use Rattle.std.proofs.lemmas.Bool.{both_ways, cases_Bool, ne_eqb}
use Rattle.sv_session.specs.declared.slot.Slot.{Slot}
use Rattle.sv_session.specs.Lists.{on_first, without_first}
use Rattle.sv_session.specs.Slots.{IsFirstFrom, IsPlace, SlotsRise, living}
use Rattle.sv_session.specs.Store.{Session, Store, is_numbered}

-- ---- the numbers of slots
pub above_slot : (low high : ℕ) (slots : List Slot) (k : ℕ) (d : Slot) → SlotsRise low high slots → k < length slots → low < (get_or slots k d).kept.number
above_slot low high [] k d rise within = absurd (omega (arith, within))
above_slot low high (x ∷ xs) zero d rise within = rise.0
above_slot low high (x ∷ xs) (suc k) d rise within =
    let more : x.kept.number < (get_or xs k d).kept.number = above_slot x.kept.number high xs k d rise.1 (omega (arith, within)) in
    omega (arith, rise.0, more)

pub numbers_rise : (low high : ℕ) (slots : List Slot) (j k : ℕ) (d : Slot) → SlotsRise low high slots → j < k → k < length slots
    → (get_or slots j d).kept.number < (get_or slots k d).kept.number
numbers_rise low high [] j k d rise less within = absurd (omega (arith, within))
numbers_rise low high (x ∷ xs) j zero d rise less within = absurd (omega (arith, less))
numbers_rise low high (x ∷ xs) zero (suc k) d rise less within = above_slot x.kept.number high xs k d rise.1 (omega (arith, within))
numbers_rise low high (x ∷ xs) (suc j) (suc k) d rise less within = numbers_rise x.kept.number high xs j k d rise.1 (omega (arith, less)) (omega (arith, within))

-- ---- the session at an index
pub record IsAt (number : ℕ) (slots : List Slot) (k : ℕ) (slot : Slot) : Type 0 where
  pub lives : slot.live ≡ true
  pub numbered : slot.kept.number ≡ number
  pub finds : find (is_numbered number) (living slots) ≡ Some slot.kept
  pub changes : (f : Session → Session) → living (set slots k (record { live = slot.live; kept = f slot.kept })) ≡ on_first (is_numbered number) f (living slots)
  pub leaves : (kept : Session) → living (set slots k (record { live = false; kept = kept })) ≡ without_first (is_numbered number) (living slots)

at_head : (number : ℕ) (slot : Slot) (xs : List Slot) → slot.live ≡ true → slot.kept.number ≡ number → IsAt number (slot ∷ xs) zero slot
at_head number slot xs live same =
    let passes : is_numbered number slot.kept ≡ true = eq-eqb slot.kept.number number same in
    record { lives = live; numbered = same; finds = rw (live, passes) refl; changes = λ f. rw (live, passes) refl; leaves = λ kept. rw (live, passes) refl }

at_later : (number : ℕ) (x slot : Slot) (xs : List Slot) (k : ℕ) → x.kept.number < number → IsAt number xs k slot → IsAt number (x ∷ xs) (suc k) slot
at_later number x slot xs k less more =
    let fails : is_numbered number x.kept ≡ false = ne_eqb x.kept.number number (λ e. omega (arith, e, less)) in
    elim (cases_Bool x.live) [
      | inl lives ↦ record {
        lives = more.lives;
        numbered = more.numbered;
        finds = rw (lives, fails) more.finds;
        changes = λ f. rw (lives, fails) (ap (λ rest. x.kept ∷ rest) (more.changes f));
        leaves = λ kept. rw (lives, fails) (ap (λ rest. x.kept ∷ rest) (more.leaves kept));
      }
      | inr dead ↦ record {
        lives = more.lives;
        numbered = more.numbered;
        finds = rw dead more.finds;
        changes = λ f. rw dead (more.changes f);
        leaves = λ kept. rw dead (more.leaves kept);
      }
    ]

pub at_slot : (low high number : ℕ) (slots : List Slot) (k : ℕ) (slot : Slot) → SlotsRise low high slots → k < length slots
    → slot ≡ get_or slots k slot → slot.live ≡ true → slot.kept.number ≡ number → IsAt number slots k slot
at_slot low high number [] k slot rise within is live same = absurd (omega (arith, within))
at_slot low high number (x ∷ xs) zero slot rise within is live same =
    subst (λ (y : Slot). IsAt number (y ∷ xs) zero slot) is (at_head number slot xs live same)
at_slot low high number (x ∷ xs) (suc k) slot rise within is live same =
    let above : x.kept.number < (get_or xs k slot).kept.number = above_slot x.kept.number high xs k slot rise.1 (omega (arith, within)) in
    let less : x.kept.number < number = subst (λ n. x.kept.number < n) (ap (λ (s : Slot). s.kept.number) (sym is) ∙ same) above in
    at_later number x slot xs k less (at_slot x.kept.number high number xs k slot rise.1 (omega (arith, within)) is live same)

pub at_place : (low high number : ℕ) (slots : List Slot) (k : ℕ) (slot : Slot) → SlotsRise low high slots → slot ≡ get_or slots k slot
    → IsPlace number slots k → IsAt number slots k slot
at_place low high number slots k slot rise is place =
    let there = place.1 slot in
    at_slot low high number slots k slot rise place.0 is (ap (λ (s : Slot). s.live) is ∙ there.0) (ap (λ (s : Slot). s.kept.number) is ∙ there.1)

-- ---- no session of the number
pub none_at : (number : ℕ) (slots : List Slot)
    → ((k : ℕ) (d : Slot) → k < length slots → (get_or slots k d).live ≡ true → (get_or slots k d).kept.number ≡ number → ⊥)
    → find (is_numbered number) (living slots) ≡ None
none_at number [] none = refl
none_at number (x ∷ xs) none = elim (cases_Bool x.live) [
  | inr dead ↦ rw dead (none_at number xs (λ k d within. none (suc k) d (omega (arith, within))))
  | inl lives ↦
      let fails : is_numbered number x.kept ≡ false = ne_eqb x.kept.number number (λ same. none 0 x (omega arith) lives same) in
      rw (lives, fails) (none_at number xs (λ k d within. none (suc k) d (omega (arith, within))))
]

nat_order : (a b : ℕ) → (a < b) ⊎ ((a ≡ b) ⊎ (b < a))
nat_order zero zero = inr (inl refl)
nat_order zero (suc b) = inl (omega arith)
nat_order (suc a) zero = inr (inr (omega arith))
nat_order (suc a) (suc b) = elim (nat_order a b) [
  | inl less ↦ inl (omega (arith, less))
  | inr rest ↦ elim rest [ inl same ↦ inr (inl (ap suc same)) | inr more ↦ inr (inr (omega (arith, more))) ]
]

pub none_from : (number high place : ℕ) (slots : List Slot) → SlotsRise 0 high slots → IsFirstFrom number slots place
    → ((d : Slot) → place < length slots → (get_or slots place d).live ≡ true → (get_or slots place d).kept.number ≡ number → ⊥)
    → find (is_numbered number) (living slots) ≡ None
none_from number high place slots rise first none = none_at number slots (λ k d within live same.
    elim (nat_order k place) [
      | inl less ↦ let lesser : (get_or slots k d).kept.number < number = (first k d within).0 less in omega (arith, lesser, same)
      | inr rest ↦ elim rest [
        | inl equal ↦ subst (λ n. n < length slots → (get_or slots n d).live ≡ true → (get_or slots n d).kept.number ≡ number → ⊥) (sym equal) (none d) within live same
        | inr more ↦
            let later : (get_or slots place d).kept.number < (get_or slots k d).kept.number = numbers_rise 0 high slots place k d rise more within in
            let least : number ≤ (get_or slots place d).kept.number = (first place d (omega (arith, more, within))).1 (omega arith) in
            omega (arith, later, least, same)
      ]
    ])

-- ---- steps of the search
le_cases : (a b : ℕ) → a ≤ b → (a ≡ b) ⊎ (a < b)
le_cases zero zero less = inl refl
le_cases zero (suc b) less = inr (omega arith)
le_cases (suc a) zero less = absurd (omega (arith, less))
le_cases (suc a) (suc b) less = elim (le_cases a b (omega (arith, less))) [ inl same ↦ inl (ap suc same) | inr under ↦ inr (omega (arith, under)) ]

pub get_or-any : (slots : List Slot) (k : ℕ) (d e : Slot) → k < length slots → get_or slots k d ≡ get_or slots k e
get_or-any [] k d e within = absurd (omega (arith, within))
get_or-any (x ∷ xs) zero d e within = refl
get_or-any (x ∷ xs) (suc k) d e within = get_or-any xs k d e (omega (arith, within))

module _ (number high : ℕ) (slots : List Slot) (middle : ℕ) (slot : Slot) (rise : SlotsRise 0 high slots) (within : middle < length slots)
    (is : slot ≡ get_or slots middle slot) where
  at_any : (d : Slot) → (get_or slots middle d).kept.number ≡ slot.kept.number
  at_any d = ap (λ (s : Slot). s.kept.number) (get_or-any slots middle d slot within ∙ sym is)

  pub lesser_up : slot.kept.number < number → (k : ℕ) (d : Slot) → k ≤ middle → (get_or slots k d).kept.number < number
  lesser_up less k d before = elim (le_cases k middle before) [
    | inl same ↦ let here : (get_or slots k d).kept.number ≡ slot.kept.number = ap (λ n. (get_or slots n d).kept.number) same ∙ at_any d in omega (arith, here, less)
    | inr under ↦
        let lower : (get_or slots k d).kept.number < (get_or slots middle d).kept.number = numbers_rise 0 high slots k middle d rise under within in
        let here = at_any d in omega (arith, lower, here, less)
  ]

  pub greater_down : number ≤ slot.kept.number → (k : ℕ) (d : Slot) → middle ≤ k → k < length slots → number ≤ (get_or slots k d).kept.number
  greater_down more k d behind inside = elim (le_cases middle k behind) [
    | inl same ↦ let here : (get_or slots k d).kept.number ≡ slot.kept.number = ap (λ n. (get_or slots n d).kept.number) (sym same) ∙ at_any d in omega (arith, here, more)
    | inr over ↦
        let higher : (get_or slots middle d).kept.number < (get_or slots k d).kept.number = numbers_rise 0 high slots middle k d rise over inside in
        let here = at_any d in omega (arith, higher, here, more)
  ]

pub now_dead : (slots : List Slot) (place : ℕ) (slot d : Slot) → place < length slots → slot ≡ get_or slots place slot → slot.live ≡ false
    → (get_or slots place d).live ≡ true → ⊥
now_dead slots place slot d within is dead lives =
    both_ways slot.live dead (ap (λ (s : Slot). s.live) (is ∙ get_or-any slots place slot d within) ∙ lives)

-- ---- the search among the stored slots
pub at_there : (number high : ℕ) (slots seen : List Slot) (place : ℕ) (slot : Slot) → seen ≡ slots → SlotsRise 0 high slots
    → ((bound : ℕ) → SlotsRise 0 bound seen → IsPlace number seen place) → slot ≡ get_or slots place slot → IsAt number slots place slot
at_there number high slots seen place slot same rise found is =
    at_place 0 high number slots place slot rise is
    (subst (λ all. IsPlace number all place) same (found high (subst (SlotsRise 0 high) (sym same) rise)))

pub none_there : (number limit interval serial : ℕ) (slots seen : List Slot) (store : Store) → seen ≡ slots
    → record { limit = limit; interval = interval; serial = serial; sessions = living slots } ≡ store → SlotsRise 0 serial slots
    → ((bound : ℕ) → SlotsRise 0 bound seen → find (is_numbered number) (living seen) ≡ None) → find (is_numbered number) store.sessions ≡ None
none_there number limit interval serial slots seen store same view rise found =
    subst (λ (s : Store). find (is_numbered number) s.sessions ≡ None) view
    (subst (λ all. find (is_numbered number) (living all) ≡ None) same (found serial (subst (SlotsRise 0 serial) (sym same) rise)))

pub same_slot : (slots : List Slot) (place : ℕ) (a b : Slot) → place < length slots → a ≡ get_or slots place a → b ≡ get_or slots place b → a ≡ b
same_slot slots place a b within is_a is_b = is_a ∙ (get_or-any slots place a b within ∙ sym is_b)
