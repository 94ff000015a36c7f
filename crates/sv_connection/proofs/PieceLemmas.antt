-- Places without the end of an empty line, by the line feeds.
use Rattle.std.proofs.Common.{◌≡◌, ℕ, ◌+◌, ◌-◌, ◌<◌, ◌≤◌, ◌&&◌, ◌||◌, ◌==◌, false, List, length, drop, slice_index, ap, ◌∙◌, sym, ◌⊎◌, inl, inr, ⊎_elim, arith}
use Rattle.std.proofs.lemmas.Bool.{cases_Bool, cases_lt}
use Rattle.std.proofs.lemmas.List.{get_or-drop}
use Rattle.memchr.specs.Find.{NoneBefore, Nowhere, Passes, is_byte}
use Rattle.sv_connection.specs.Pieces.{begins_line, ends_empty_line, is_lone_return}

-- No empty line ends without a line feed.
no_end_at : (bytes : List ℕ) (place : ℕ) → ¬ Passes (is_byte 10) bytes place → ends_empty_line bytes place ≡ false
no_end_at bytes place other =
    ⊎_elim (λ feed. absurd (other feed)) (λ fails. ap (λ b. b && (begins_line bytes place || is_lone_return bytes (place - 1))) fails)
    (cases_Bool (slice_index bytes place == 10))

module _ (bytes rest : List ℕ) (at : ℕ) (behind : rest ≡ drop at bytes)
    (before : (place : ℕ) → place < at → ends_empty_line bytes place ≡ false) where
  -- No empty line ends within `at + n` bytes if none ends within `at` and no line feed is among the next `n`.
  pub no_end_until : (n : ℕ) → Nowhere (Passes (is_byte 10) rest) 0 n
      → (place : ℕ) → place < at + n → ends_empty_line bytes place ≡ false
  no_end_until n nowhere place within = by (cases_lt place at)
    where
      at_place : (j : ℕ) → j < n → place ≡ at + j → ends_empty_line bytes place ≡ false
      at_place j under is =
          no_end_at bytes place
          (λ feed. nowhere j (omega arith) under
          (ap (λ (t : List ℕ). slice_index t j == 10) behind ∙ ap (λ b. b == 10) (get_or-drop at bytes j 0) ∙ ap (λ k. slice_index bytes k == 10) (sym is) ∙ feed))

      by : (place < at) ⊎ (at ≤ place) → ends_empty_line bytes place ≡ false
      by (inl front) = before place front
      by (inr after) = at_place (place - at) (omega (arith, within, after)) (omega (arith, after))

  -- The same holds up to the first line feed after `at`, if no empty line ends there.
  pub no_end_to_feed : (n : ℕ) → NoneBefore (Passes (is_byte 10) rest) 0 (length rest) n → false ≡ ends_empty_line bytes (at + n)
      → (place : ℕ) → place < at + n + 1 → ends_empty_line bytes place ≡ false
  no_end_to_feed n first fails place within = by (cases_lt place (at + n))
    where
      by : (place < at + n) ⊎ (at + n ≤ place) → ends_empty_line bytes place ≡ false
      by (inl front) = no_end_until n first.before place front
      by (inr last) = let same : place ≡ at + n = omega (arith, last, within) in ap (ends_empty_line bytes) same ∙ sym fails
