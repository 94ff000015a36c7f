-- The first live session above a number, by the index of its slot.
use Rattle.std.proofs.Common.{◌≡◌, ℕ, zero, suc, ◌+◌, ◌<◌, ◌≤◌, false, inl, inr, List, [], ◌∷◌, length, drop, get_or, None, refl, ltb, arith}
use Rattle.std.specs.List.{find}
use Rattle.std.specs.Option.{option_map}
use Rattle.std.proofs.lemmas.Bool.{cases_Bool, false_from_ne_true, lt-ltb, ltb-true}
use Rattle.sv_session.specs.declared.slot.Slot.{Slot}
use Rattle.sv_session.specs.Slots.{IsFirstFrom, SlotsRise, living}
use Rattle.sv_session.specs.Store.{Session}

not_less : (a b : ℕ) → b ≤ a → ltb a b ≡ false
not_less a b more = false_from_ne_true (ltb a b) (λ less. omega (arith, more, ltb-true a b less))

after_all : (number : ℕ) (slots : List Slot) → ((k : ℕ) (d : Slot) → k < length slots → number < (get_or slots k d).kept.number)
    → option_map (λ (s : Slot). s.kept) (find (λ (s : Slot). s.live) slots) ≡ find (λ (s : Session). ltb number s.number) (living slots)
after_all number [] above = refl
after_all number (x ∷ xs) above = elim (cases_Bool x.live) [
  | inl lives ↦ rw (lives, lt-ltb number x.kept.number (above 0 x (omega arith))) refl
  | inr dead ↦ rw dead (after_all number xs (λ k d within. above (suc k) d (omega (arith, within))))
]

pub after_place : (number place : ℕ) (slots : List Slot) → IsFirstFrom (number + 1) slots place
    → option_map (λ (s : Slot). s.kept) (find (λ (s : Slot). s.live) (drop place slots)) ≡ find (λ (s : Session). ltb number s.number) (living slots)
after_place number zero slots first = after_all number slots (λ k d within. let least = (first k d within).1 (omega arith) in omega (arith, least))
after_place number (suc place) [] first = refl
after_place number (suc place) (x ∷ xs) first =
    let less = (first 0 x (omega arith)).0 (omega arith) in
    let fails : ltb number x.kept.number ≡ false = not_less number x.kept.number (omega (arith, less)) in
    let more = after_place number place xs (λ k d within. (
      λ before. (first (suc k) d (omega (arith, within))).0 (omega (arith, before)),
      λ behind. (first (suc k) d (omega (arith, within))).1 (omega (arith, behind)),
    )) in
    elim (cases_Bool x.live) [ inl lives ↦ rw (lives, fails) more | inr dead ↦ rw dead more ]

-- No number is above the greatest.
high_above : (low high : ℕ) (slots : List Slot) → SlotsRise low high slots → low ≤ high
high_above low high [] rise = rise
high_above low high (x ∷ xs) rise = omega (arith, rise.0, high_above x.kept.number high xs rise.1)

pub none_after : (number low high : ℕ) (slots : List Slot) → high ≤ number → SlotsRise low high slots
    → None ≡ find (λ (s : Session). ltb number s.number) (living slots)
none_after number low high [] most rise = refl
none_after number low high (x ∷ xs) most rise =
    let fails : ltb number x.kept.number ≡ false = not_less number x.kept.number (omega (arith, most, high_above x.kept.number high xs rise.1)) in
    let more = none_after number x.kept.number high xs most rise.1 in
    elim (cases_Bool x.live) [ inl lives ↦ rw (lives, fails) more | inr dead ↦ rw dead more ]
