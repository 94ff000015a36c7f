-- The place of a line feed.
use Rattle.std.proofs.Common.{◌≡◌, ℕ, suc, zero, ◌+◌, ◌<◌, ◌≤◌, false, eqb, ltb, List, [], ◌∷◌, ◌++◌, Some, None, refl, sym, ap, ◌∙◌, length, take, drop, get_or, drop-cons, ⊎_elim, arith}
use Rattle.std.specs.List.{position, position_or_len}
use Rattle.std.proofs.lemmas.Bool.{cases_Bool, cond-true, eqb-true, ltb-false}
use Rattle.std.proofs.lemmas.List.{take-append-drop}
use Rattle.std.proofs.lemmas.List.Quantifiers.{position-Some}
use Rattle.std.proofs.lemmas.List.Folds.{list_any_none}
use Rattle.std.proofs.lemmas.List.Sums.{fails_before_first}
use Rattle.sv_streams.specs.Lines.{has_line_feed}

no_feed_before : (bytes : List ℕ) (place : ℕ) → ((k : ℕ) → k < place → eqb (get_or bytes k 0) 10 ≡ false) → place ≤ length bytes → has_line_feed (take place bytes) ≡ false
no_feed_before [] zero none inside = refl
no_feed_before [] (suc place) none inside = absurd (omega arith)
no_feed_before (b ∷ bytes) zero none inside = refl
no_feed_before (b ∷ bytes) (suc place) none inside =
    let here : eqb b 10 ≡ false = none 0 (omega arith) in
    let rest : has_line_feed (take place bytes) ≡ false = no_feed_before bytes place (λ k below. none (suc k) (omega arith)) (omega arith) in
    rw (here, rest) refl

pub record IsPlace (bytes : List ℕ) (place : ℕ) : Type 0 where
  pub none : has_line_feed (take place bytes) ≡ false
  pub parts : bytes ≡ take place bytes ++ 10 ∷ drop (place + 1) bytes
  pub inside : place + 1 ≤ length bytes

pub is_place : (bytes : List ℕ) (place : ℕ) → position (λ b. eqb b 10) bytes ≡ Some place → IsPlace bytes place
is_place bytes place found =
    let first = position-Some (λ b. eqb b 10) bytes place 0 found in
    let inside : place < length bytes = first.0 in
    let feed : get_or bytes place 0 ≡ 10 = eqb-true _ _ first.1 in
    let left : drop place bytes ≡ get_or bytes place 0 ∷ drop (suc place) bytes = drop-cons bytes place 0 inside in
    let next : suc place ≡ place + 1 = omega arith in
    record {
      none = no_feed_before bytes place first.2 (omega arith);
      parts = sym (take-append-drop place bytes) ∙ ap (λ text. take place bytes ++ text) (left ∙ ap (λ b. b ∷ drop (suc place) bytes) feed ∙ ap (λ n. 10 ∷ drop n bytes) next);
      inside = omega arith;
    }

pub no_place : (bytes : List ℕ) → None ≡ position (λ b. eqb b 10) bytes → has_line_feed bytes ≡ false
no_place bytes found =
    let p = λ (b : ℕ). eqb b 10 in
    ⊎_elim
    (λ inside. cc (found, cond-true _ (Some (position_or_len p bytes)) None inside))
    (λ outside.
    let past = ltb-false _ _ outside in
    list_any_none p bytes (λ k d within. fails_before_first p bytes k d (omega arith)))
    (cases_Bool (ltb (position_or_len p bytes) (length bytes)))
