-- The order of the records, and one more entry.
use Rattle.std.proofs.Common.{◌≡◌, ℕ, true, false, ◌&&◌, ◌||◌, eqb, ltb, inl, inr, ◌⊎◌, List, [], ◌∷◌, Option, Some, None, refl, ◌∙◌, ap, ◌<◌, ◌++◌, length, set, arith}
use Rattle.std.proofs.lemmas.Bool.{cases_Bool}
use Rattle.std.proofs.lemmas.Bool.Decides.{nat_tests}
use Rattle.sv_session.specs.declared.due.Due.{Due}
use Rattle.sv_session.specs.Order.{Waiting, is_before, sooner}

-- The first record, if any, is not after the other.
abbrev pub Covers : Option Due → Due → Type 0
Covers None due = ⊥
Covers (Some least) due = is_before due least ≡ false

behind_sooner : (da na db nb dc nc : ℕ) → (ltb db da || (eqb db da && ltb nb na)) ≡ true → (ltb dc da || (eqb dc da && ltb nc na)) ≡ false
    → (ltb dc db || (eqb dc db && ltb nc nb)) ≡ false
behind_sooner da na db nb dc nc h k = grind (arith, nat_tests)

behind_both : (da na db nb dc nc : ℕ) → (ltb db da || (eqb db da && ltb nb na)) ≡ false → (ltb dc db || (eqb dc db && ltb nc nb)) ≡ false
    → (ltb dc da || (eqb dc da && ltb nc na)) ≡ false
behind_both da na db nb dc nc h k = grind (arith, nat_tests)

pub not_itself : (d n : ℕ) → (ltb d d || (eqb d d && ltb n n)) ≡ false
not_itself d n = grind (arith, nat_tests)

pub covers_left : (a b : Option Due) (due : Due) → Covers a due → Covers (sooner a b) due
covers_left None b due covers = absurd covers
covers_left (Some x) None due covers = covers
covers_left (Some x) (Some y) due covers = elim (cases_Bool (is_before y x)) [
  | inl before ↦ rw before (behind_sooner x.last_access x.number y.last_access y.number due.last_access due.number before covers)
  | inr behind ↦ rw behind covers
]

pub covers_right : (a b : Option Due) (due : Due) → Covers b due → Covers (sooner a b) due
covers_right None b due covers = covers
covers_right (Some x) None due covers = absurd covers
covers_right (Some x) (Some y) due covers = elim (cases_Bool (is_before y x)) [
  | inl before ↦ rw before covers
  | inr behind ↦ rw behind (behind_both x.last_access x.number y.last_access y.number due.last_access due.number behind covers)
]

pub from_sooner : (a b : Option Due) (due : Due) → sooner a b ≡ Some due → (a ≡ Some due) ⊎ (b ≡ Some due)
from_sooner None b due is = inr is
from_sooner (Some x) None due is = inl is
from_sooner (Some x) (Some y) due is = elim (cases_Bool (is_before y x)) [
  | inl before ↦ inr (rw before at is)
  | inr behind ↦ inl (rw behind at is)
]

-- ---- one more entry
pub last_place : (places : List (Option Due)) (due : Option Due) → length places < length (places ++ None ∷ [])
    × (set (places ++ None ∷ []) (length places) due ≡ places ++ due ∷ [])
last_place [] due = (omega arith, refl)
last_place (x ∷ xs) due = let more = last_place xs due in (omega (arith, more.0), ap (λ rest. x ∷ rest) more.1)

pub pushed : (old wider new : Waiting) (place : ℕ) (due : Due) → place ≡ length old → wider ≡ old ++ None ∷ []
    → new ≡ set wider place (Some due) → new ≡ old ++ Some due ∷ []
pushed old wider new place due last more put =
    put ∙ (ap (λ places. set places place (Some due)) more
    ∙ (ap (λ n. set (old ++ None ∷ []) n (Some due)) last
    ∙ (last_place old (Some due)).1))
