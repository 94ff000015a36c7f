-- The record of a signal among whole ones.
use Rattle.std.proofs.Common.{◌≡◌, ℕ, ◌+◌, ◌-◌, ◌*◌, ◌≤◌, Bool, true, false, List, [], ◌++◌, length, take, drop, zero, suc, refl, sym, ap, ◌∙◌, arith, append_assoc}
use Rattle.std.proofs.lemmas.Bool.{false≢true}
use Rattle.std.proofs.lemmas.List.{length-append, length-drop, length-take-le, take-append-drop}
use Rattle.std.specs.List.{list_any}
use Rattle.std.specs.Prelude.{◌||◌}
use Rattle.std.specs.Simd.{first_chunks}

module _ (test : List ℕ → Bool) where
  -- a record of 128 bytes passes the test, after a number of others
  abbrev pub IsAmong : List ℕ → Type 0
  IsAmong bytes =
      (before signal after : List ℕ) × (count : ℕ) × (bytes ≡ before ++ signal ++ after) × (length before ≡ count * 128)
      × (length signal ≡ 128) × (test signal ≡ true)

  joined : (first before signal after rest : List ℕ) → rest ≡ before ++ signal ++ after → first ++ rest ≡ first ++ before ++ signal ++ after
  joined first before signal after rest is =
      ap (λ (last : List ℕ). first ++ last) is ∙ sym (append_assoc first (before ++ signal) after)
      ∙ ap (λ (front : List ℕ). front ++ after) (sym (append_assoc first before signal))

  counted : (first before : List ℕ) (count : ℕ) → length first ≡ 128 → length before ≡ count * 128 → length (first ++ before) ≡ suc count * 128
  counted first before count one others = length-append first before ∙ omega arith

  later : (bytes : List ℕ) → 128 ≤ length bytes → IsAmong (drop 128 bytes) → IsAmong bytes
  later bytes long (before, signal, after, count, is, at, whole, passes) = (
    take 128 bytes ++ before,
    signal,
    after,
    suc count,
    sym (take-append-drop 128 bytes) ∙ joined (take 128 bytes) before signal after (drop 128 bytes) is,
    counted (take 128 bytes) before count (length-take-le 128 bytes long) at,
    whole,
    passes,
  )

  first_or_later : (bytes : List ℕ) (others : Bool) (passes : Bool) → 128 ≤ length bytes → (others ≡ true → IsAmong (drop 128 bytes))
      → test (take 128 bytes) ≡ passes → passes || others ≡ true → IsAmong bytes
  first_or_later bytes others true long deeper is any =
      ([], take 128 bytes, drop 128 bytes, 0, sym (take-append-drop 128 bytes), refl, length-take-le 128 bytes long, is)
  first_or_later bytes others false long deeper is any = later bytes long (deeper any)

  pub among : (count : ℕ) (bytes : List ℕ) → count * 128 ≤ length bytes → list_any test (first_chunks 128 count bytes) ≡ true → IsAmong bytes
  among zero bytes fits any = absurd (false≢true any)
  among (suc count) bytes fits any =
      let long : 128 ≤ length bytes = omega arith in
      let left : length (drop 128 bytes) ≡ length bytes - 128 = length-drop 128 bytes in
      let fewer : count * 128 ≤ length (drop 128 bytes) = omega arith in
      first_or_later bytes (list_any test (first_chunks 128 count (drop 128 bytes))) (test (take 128 bytes)) long
      (λ others. among count (drop 128 bytes) fewer others) refl any
