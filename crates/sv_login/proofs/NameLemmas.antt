-- The first byte of an encoded name, and decoded names that are ASCII.
use Rattle.std.proofs.Common.{◌≡◌, ℕ, zero, suc, ◌+◌, ◌*◌, ◌<◌, ◌≤◌, true, false, List, [], ◌∷◌, ◌++◌, map, length, take, drop, get_or, IsAscii, bytes_eq, refl, sym, ap, subst, ◌∙◌, arith, inl, inr, ⊎_elim}
use Rattle.std.proofs.lemmas.Bool.{cases_eq, cases_Bool, cond-true, cond-false, eq-eqb, ne_eqb}
use Rattle.std.proofs.lemmas.List.{length-map}
use Rattle.std.proofs.lemmas.Slice.Eq.{bytes_eq-Decides}
use Rattle.std.proofs.lemmas.Str.{utf8_lossy_step, IsUtf8-from_ascii, utf8_valid_len-IsUtf8}
use Rattle.std.specs.Char.{digit_value}
use Rattle.std.specs.Str.Lossy.{utf8_valid_len, utf8_lossy, utf8_lossy_within, after_first_chunk, replacement_bytes}
use Rattle.form_urlencoded.specs.Form.{decode, plus_to_space}
use Rattle.percent_encoding.specs.Percent.{KeepsFirst, percent_decode}
use Rattle.percent_encoding.proofs.PercentLemmas.{KeepsFirst_from_no_escape, percent_decode_escape, length-percent_decode}

percent_stays : (b : ℕ) → plus_to_space b ≡ 37 → b ≡ 37
percent_stays b is = ⊎_elim
    (λ plus. absurd (omega (arith, cond-true _ 32 b (eq-eqb b 43 plus), is)))
    (λ other. sym (cond-false _ 32 b (ne_eqb b 43 other)) ∙ is)
    (cases_eq b 43)

digit_stays : (b : ℕ) → digit_value (plus_to_space b) < 16 → digit_value b < 16
digit_stays b digit = ⊎_elim
    (λ plus. absurd (omega (arith, subst (λ x. digit_value x < 16) (cond-true _ 32 b (eq-eqb b 43 plus)) digit)))
    (λ other. subst (λ x. digit_value x < 16) (cond-false _ 32 b (ne_eqb b 43 other)) digit)
    (cases_eq b 43)

digit_is_no_plus : (b : ℕ) → digit_value b < 16 → plus_to_space b ≡ b
digit_is_no_plus b digit = ⊎_elim
    (λ plus. absurd (omega (arith, subst (λ x. digit_value x < 16) plus digit)))
    (λ other. cond-false _ 32 b (ne_eqb b 43 other))
    (cases_eq b 43)

-- A text that begins with no escape keeps its first byte.
pub keeps_first : (bytes : List ℕ) → (3 ≤ length bytes → get_or bytes 0 0 ≡ 37 → digit_value (get_or bytes 1 0) < 16 → digit_value (get_or bytes 2 0) < 16 → ⊥)
    → KeepsFirst (map plus_to_space bytes)
keeps_first [] never = tt
keeps_first (b ∷ []) never = KeepsFirst_from_no_escape (plus_to_space b ∷ []) (λ long _ _ _. absurd (omega arith))
keeps_first (b ∷ c ∷ []) never = KeepsFirst_from_no_escape (plus_to_space b ∷ plus_to_space c ∷ []) (λ long _ _ _. absurd (omega arith))
keeps_first (b ∷ high ∷ low ∷ rest) never =
    KeepsFirst_from_no_escape (plus_to_space b ∷ plus_to_space high ∷ plus_to_space low ∷ map plus_to_space rest)
    (λ long percent h l. never (omega arith) (percent_stays b percent) (digit_stays high h) (digit_stays low l))

-- A text that begins with an escape decodes to its byte, and goes on with the rest.
pub decodes_escape : (bytes : List ℕ) → 3 ≤ length bytes → get_or bytes 0 0 ≡ 37 → digit_value (get_or bytes 1 0) < 16 → digit_value (get_or bytes 2 0) < 16
    → decode bytes ≡ (16 * digit_value (get_or bytes 1 0) + digit_value (get_or bytes 2 0)) ∷ decode (drop 3 bytes)
decodes_escape [] long _ _ _ = absurd (omega arith)
decodes_escape (b ∷ []) long _ _ _ = absurd (omega arith)
decodes_escape (b ∷ c ∷ []) long _ _ _ = absurd (omega arith)
decodes_escape (b ∷ high ∷ low ∷ rest) long percent h l =
    let first : plus_to_space b ≡ 37 = ap plus_to_space percent in
    rw (digit_is_no_plus high h, digit_is_no_plus low l) (percent_decode_escape (plus_to_space b) high low (map plus_to_space rest) first h l)

-- Only the empty text decodes to nothing.
pub decodes_to_nothing : (bytes : List ℕ) → length bytes ≡ 0 → decode bytes ≡ []
unfolding percent_decode
decodes_to_nothing [] none = refl
decodes_to_nothing (b ∷ bytes) none = absurd (omega arith)

lossy_valid : (k : ℕ) (bytes : List ℕ) → utf8_valid_len bytes ≡ length bytes → utf8_lossy_within k bytes ≡ bytes
lossy_valid zero bytes valid = refl
lossy_valid (suc k) bytes valid = rw (eq-eqb _ _ valid)

lossy_same : (bytes : List ℕ) → utf8_valid_len bytes ≡ length bytes → utf8_lossy bytes ≡ bytes
unfolding utf8_lossy
lossy_same bytes valid = lossy_valid (length bytes) bytes valid

-- No ASCII text holds U+FFFD.
no_replacement : (front back : List ℕ) → IsAscii (front ++ (replacement_bytes ++ back)) → ⊥
no_replacement [] back ascii = absurd (omega (arith, ascii 0))
no_replacement (b ∷ front) back ascii = no_replacement front back (λ i. ascii (suc i))

is_same : (xs ys : List ℕ) → bytes_eq xs ys ≡ true → xs ≡ ys
is_same xs ys same = (bytes_eq-Decides xs ys).0 same

unlike : (xs ys : List ℕ) → (xs ≡ ys → ⊥) → bytes_eq xs ys ≡ false
unlike xs ys never = elim (cases_Bool (bytes_eq xs ys)) [
  | inl same ↦ absurd (never (is_same xs ys same))
  | inr other ↦ other
]

-- Replacing what is not UTF-8 makes no text an ASCII name.
pub lossy_name : (bytes name : List ℕ) → IsAscii name → bytes_eq (utf8_lossy bytes) name ≡ bytes_eq bytes name
lossy_name bytes name ascii = ⊎_elim
    (λ valid. ap (λ text. bytes_eq text name) (lossy_same bytes valid))
    (λ faulty.
    let step = utf8_lossy_step bytes faulty in
    unlike (utf8_lossy bytes) name (λ same. no_replacement (take (utf8_valid_len bytes) bytes) (utf8_lossy (after_first_chunk bytes)) (subst IsAscii (sym same ∙ step) ascii))
    ∙ sym (unlike bytes name (λ same. faulty (utf8_valid_len-IsUtf8 bytes (IsUtf8-from_ascii bytes (subst IsAscii (sym same) ascii))))))
    (cases_eq (utf8_valid_len bytes) (length bytes))

-- A text that is shorter than a name does not decode to it.
pub too_short : (encoded name : List ℕ) → length encoded < length name → bytes_eq (decode encoded) name ≡ false
too_short encoded name short =
    let sizes = length-percent_decode (map plus_to_space encoded) in
    unlike (decode encoded) name (λ same. omega (arith, ap length same, sizes.0, length-map encoded plus_to_space))
