-- A text that ends no line ends no head.
use Rattle.std.proofs.Common.{◌≡◌, ℕ, suc, Some, None, ◌+◌, ◌-◌, ◌<◌, ◌≤◌, ◌&&◌, ◌==◌, true, false, List, [], ◌∷◌, ◌++◌, length, take, drop, nat_eq, slice_index, refl, sym, ap, ◌∙◌, subst, ◌⊎◌, inl, inr, ⊎_elim, true≢false, arith, length-append, length-drop, length-take, drop-drop, eqb-true}
use Rattle.std.specs.List.{ends_with}
use Rattle.std.proofs.lemmas.Bool.{and_parts, cases_Bool, cases_lt, or_from}
use Rattle.std.proofs.lemmas.List.{drop_at, get_or-drop, take_all, take-take, take_more}
use Rattle.memchr.specs.Find.{NoneBefore, Nowhere, Passes, is_byte}
use lib.Pointwise.{pointwise}
use Rattle.sv_text.specs.Front.{cut_at, shortest_front}
use Rattle.sv_text.specs.declared.front.Cut.TheVariants.{Whole}
use Rattle.sv_text.proofs.FrontLemmas.{shortest_front_none, shortest_front_some}
use Rattle.sv_wire.specs.Head.{ends_head}
use Rattle.sv_wire.specs.Reads.{cut_head}
use Rattle.sv_wire.specs.declared.limits.TheConstants.{MAX_HEAD_LEN}

-- Lists that agree have the same length.
as_long : (xs ys : List ℕ) → pointwise nat_eq xs ys ≡ true → length xs ≡ length ys
as_long [] [] agree = refl
as_long [] (y ∷ ys) agree = absurd (cc)
as_long (x ∷ xs) [] agree = absurd (cc)
as_long (x ∷ xs) (y ∷ ys) agree = ap suc (as_long xs ys (and_parts (nat_eq x y) _ agree).1)

-- Lists that agree have last elements that agree.
last_agrees : (front ys : List ℕ) → pointwise nat_eq (front ++ 10 ∷ []) ys ≡ true → pointwise nat_eq (10 ∷ []) (drop (length front) ys) ≡ true
last_agrees [] ys agree = agree
last_agrees (x ∷ front) [] agree = absurd (cc)
last_agrees (x ∷ front) (y ∷ ys) agree = last_agrees front ys (and_parts (nat_eq x y) _ agree).1

-- A text ends with a line feed if it ends with a text that does.
ends_line : (text front : List ℕ) → ends_with nat_eq text (front ++ 10 ∷ []) ≡ true → ends_with nat_eq text (10 ∷ []) ≡ true
ends_line text front ends =
    let at = length text - length (front ++ 10 ∷ []) in
    let long = as_long (front ++ 10 ∷ []) (drop at text) ends in
    subst (λ t. pointwise nat_eq (10 ∷ []) t ≡ true)
    (drop-drop (length front) at text ∙ ap (λ n. drop n text) (omega (arith, long, length-append front (10 ∷ []), length-drop at text)))
    (last_agrees front (drop at text) ends)

module _ (text : List ℕ) (no_line : ends_with nat_eq text (10 ∷ []) ≡ false) where
  no_end : (front : List ℕ) → ends_with nat_eq text (front ++ 10 ∷ []) ≡ false
  no_end front =
      ⊎_elim (λ ends. absurd (true≢false (sym (ends_line text front ends) ∙ no_line))) (λ fails. fails) (cases_Bool (ends_with nat_eq text (front ++ 10 ∷ [])))

  pub no_head_ends : ends_head text ≡ false
  no_head_ends = or_from _ _ (no_end (10 ∷ [])) (no_end (10 ∷ 13 ∷ []))

-- ---- fronts whose last byte is no line feed

-- A text that ends with another byte ends no line.
other_last : (front : List ℕ) (last : ℕ) → nat_eq 10 last ≡ false → ends_with nat_eq (front ++ last ∷ []) (10 ∷ []) ≡ false
other_last front last other =
    ap (pointwise nat_eq (10 ∷ [])) (drop_at front (last ∷ []) _ (omega (arith, length-append front (last ∷ []))))
    ∙ ap (λ b. b && true) other

other_byte : (byte : ℕ) → ¬ (byte == 10) ≡ true → nat_eq 10 byte ≡ false
other_byte byte other =
    ⊎_elim (λ same. absurd (other (ap (λ n. n == 10) (sym (eqb-true 10 byte same))))) (λ fails. fails) (cases_Bool (nat_eq 10 byte))

-- A prefix ends no head if its last byte is no line feed.
no_head_at : (text : List ℕ) (k : ℕ) → k < length text → ¬ Passes (is_byte 10) text k → ends_head (take (k + 1) text) ≡ false
no_head_at text k below other =
    no_head_ends (take (k + 1) text)
    (ap (λ t. ends_with nat_eq t (10 ∷ [])) (take_more text k 0 below) ∙ other_last (take k text) (slice_index text k) (other_byte _ other))

-- If no prefix up to a place ends a head, and the next `n` bytes contain no line feed, no prefix up to their end does.
no_head_until : (text : List ℕ) (at n : ℕ) → at + n ≤ length text
    → ((k : ℕ) → k ≤ at → ends_head (take k text) ≡ false) → Nowhere (Passes (is_byte 10) (drop at text)) 0 n
    → (k : ℕ) → k ≤ at + n → ends_head (take k text) ≡ false
no_head_until text at n fits before nowhere k within = by (cases_lt at k)
  where
    at_place : (j : ℕ) → k ≡ at + j + 1 → ends_head (take k text) ≡ false
    at_place j is =
        ap (λ m. ends_head (take m text)) is
        ∙ no_head_at text (at + j) (omega (arith, is)) (λ feed. nowhere j (omega arith) (omega (arith, is)) (ap (λ b. b == 10) (get_or-drop at text j 0) ∙ feed))

    by : (at < k) ⊎ (k ≤ at) → ends_head (take k text) ≡ false
    by (inl behind) = at_place (k - at - 1) (omega (arith, behind))
    by (inr front) = before k front

-- ---- the first prefix that ends a head, by the line feeds

module _ (text rest : List ℕ) (at : ℕ) (behind : rest ≡ drop at text) (below : at < length text)
    (before : (k : ℕ) → k ≤ at → ends_head (take k text) ≡ false) where
  long : length rest ≡ length text - at
  long = ap length behind ∙ length-drop at text

  -- No line feed follows the place.
  pub no_head : Nowhere (Passes (is_byte 10) rest) 0 (length rest) → None ≡ shortest_front ends_head text
  no_head nowhere =
      let all : length (drop at text) ≡ length text - at = length-drop at text in
      sym (shortest_front_none ends_head text
      (λ k within. no_head_until text at (length (drop at text)) (omega (arith, all, below)) before (rw behind at nowhere) k (omega (arith, all, within))))

  module _ (place : ℕ) (first : NoneBefore (Passes (is_byte 10) rest) 0 (length rest) place) where
    fits : at + (place + 1) ≤ length text
    fits = omega (arith, long, below, first.high)

    none_to_feed : (k : ℕ) → k ≤ at + place → ends_head (take k text) ≡ false
    none_to_feed = no_head_until text at place (omega (arith, fits)) before (rw behind at first.before)

    -- The prefix up to the first line feed after the place ends a head.
    pub head_at_feed : true ≡ ends_head (take (at + (place + 1)) text) → Some (at + (place + 1)) ≡ shortest_front ends_head text
    head_at_feed ends =
        sym (shortest_front_some ends_head text (at + (place + 1))
        (record { fits = fits; passes = sym ends; first = λ k within. none_to_feed k (omega (arith, within)) }))

    -- This prefix ends no head.
    pub no_head_to_feed : false ≡ ends_head (take (at + (place + 1)) text) → (k : ℕ) → k ≤ at + (place + 1) → ends_head (take k text) ≡ false
    no_head_to_feed fails k within = by (cases_lt (at + place) k)
      where
        by : (at + place < k) ⊎ (k ≤ at + place) → ends_head (take k text) ≡ false
        by (inl last) = let same : k ≡ at + (place + 1) = omega (arith, last, within) in ap (λ n. ends_head (take n text)) same ∙ sym fails
        by (inr front) = none_to_feed k front

-- If no prefix up to the end of a text ends a head, none does.
pub no_head_in_all : (text : List ℕ) (at : ℕ) → length text ≤ at → ((k : ℕ) → k ≤ at → ends_head (take k text) ≡ false)
    → None ≡ shortest_front ends_head text
no_head_in_all text at over before = sym (shortest_front_none ends_head text (λ k within. before k (omega (arith, over, within))))

-- ---- the head cut from a stream, by the front of the stream

module _ (stream text : List ℕ) (front : text ≡ take MAX_HEAD_LEN stream) where
  -- If no short prefix of the stream ends a head, no short prefix of its front does.
  pub no_head_in_front : (from : ℕ) → ((k : ℕ) → k < from → ends_head (take k stream) ≡ false)
      → (k : ℕ) → k < from → ends_head (take k text) ≡ false
  no_head_in_front from before k below = by (cases_lt MAX_HEAD_LEN k)
    where
      by : (MAX_HEAD_LEN < k) ⊎ (k ≤ MAX_HEAD_LEN) → ends_head (take k text) ≡ false
      by (inl long) =
          let all : take k text ≡ take MAX_HEAD_LEN stream =
          take_all k text (omega (arith, ap length front, length-take MAX_HEAD_LEN stream, long)) ∙ front in
          ap ends_head all ∙ before MAX_HEAD_LEN (omega (arith, long, below))
      by (inr short) = ap (λ t. ends_head (take k t)) front ∙ ap ends_head (take-take k MAX_HEAD_LEN stream short) ∙ before k below

  -- If a prefix of the front ends a head, the shortest one is cut.
  pub whole : (len : ℕ) → Some len ≡ shortest_front ends_head text → Whole len ≡ cut_head stream
  whole len is = ap (cut_at MAX_HEAD_LEN stream) (is ∙ ap (shortest_front ends_head) front)
