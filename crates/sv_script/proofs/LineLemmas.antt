-- Lines at the beginning of a text.
use Rattle.std.proofs.Common.{◌≡◌, ℕ, ◌<◌, Bool, true, false, eqb, List, [], ◌∷◌, ◌++◌, refl, subst, sym, ap, ◌∙◌, inl, inr, append_assoc, append-nil, length, arith, flat_map, ⊎_elim, ◌⊎◌}
use Rattle.std.proofs.lemmas.Bool.{cases_Bool, eqb-true, or_parts}
use Rattle.std.specs.List.{AllByRecursion}
use Rattle.sv_script.specs.ReplayLaws.{HasNoLineFeed, with_line_feed}
use Rattle.sv_script.specs.Lines.{AreNext, IsNext, lines_of, with_byte}
use Rattle.sv_streams.specs.Lines.{has_line_feed}

next_grows : (ended ended_then : Bool) (more line text behind : List ℕ)
    → (ended ≡ true → (more ≡ []) × (ended_then ≡ true)) → IsNext ended line text behind → IsNext ended_then line (text ++ more) (behind ++ more)
next_grows ended ended_then more line text behind none (inl (no_feed, is)) =
    inl (no_feed, ap (λ t. t ++ more) is ∙ append_assoc line (10 ∷ behind) more)
next_grows ended ended_then more line text behind none (inr ((no_feed, is, some), empty, at_end)) =
    let both : (more ≡ []) × (ended_then ≡ true) = none at_end in
    inr (
      (no_feed, ap (λ m. text ++ m) both.0 ∙ append-nil text ∙ is, some),
      ap (λ m. behind ++ m) both.0 ∙ append-nil behind ∙ empty,
      both.1,
    )

-- reading more text keeps the lines, if nothing is read after the end
pub grows : (ended ended_then : Bool) (more : List ℕ) (lines : List (List ℕ)) (text rest : List ℕ)
    → (ended ≡ true → (more ≡ []) × (ended_then ≡ true)) → AreNext ended lines text rest → AreNext ended_then lines (text ++ more) (rest ++ more)
grows ended ended_then more [] text rest none is = ap (λ t. t ++ more) is
grows ended ended_then more (line ∷ lines) text rest none (behind, next, later) =
    (behind ++ more, next_grows ended ended_then more line text behind none next, grows ended ended_then more lines behind rest none later)

-- one more line
pub line_more : (ended : Bool) (lines : List (List ℕ)) (line text rest behind : List ℕ)
    → AreNext ended lines text rest → IsNext ended line rest behind → AreNext ended (lines ++ line ∷ []) text behind
line_more ended [] line text rest behind is next = let P : List ℕ → Type 0 = λ t. IsNext ended line t behind in (behind, subst P is next, refl)
line_more ended (first ∷ lines) line text rest behind (middle, before, later) next =
    (middle, before, line_more ended lines line middle rest behind later next)

cut_lines : (line behind : List ℕ) → has_line_feed line ≡ false → lines_of (line ++ 10 ∷ behind) ≡ line ∷ lines_of behind
cut_lines [] behind none = refl
cut_lines (b ∷ line) behind none =
    let parts = or_parts (eqb b 10) (has_line_feed line) none in
    let here : eqb b 10 ≡ false = parts.0 in
    let rest : lines_of (line ++ 10 ∷ behind) ≡ line ∷ lines_of behind = cut_lines line behind parts.1 in
    rw (here, rest) refl

last_line : (line : List ℕ) → has_line_feed line ≡ false → 0 < length line → lines_of line ≡ line ∷ []
last_line [] none some = absurd (omega arith)
last_line (b ∷ []) none some = let here : eqb b 10 ≡ false = (or_parts (eqb b 10) false none).0 in rw here refl
last_line (b ∷ c ∷ line) none some =
    let parts = or_parts (eqb b 10) (has_line_feed (c ∷ line)) none in
    let here : eqb b 10 ≡ false = parts.0 in
    let rest : lines_of (c ∷ line) ≡ (c ∷ line) ∷ [] = last_line (c ∷ line) parts.1 (omega arith) in
    rw here (ap (with_byte b) rest)

first_of_lines : (ended : Bool) (line text behind : List ℕ) → IsNext ended line text behind → lines_of text ≡ line ∷ lines_of behind
first_of_lines ended line text behind (inl (none, is)) = ap lines_of is ∙ cut_lines line behind none
first_of_lines ended line text behind (inr ((none, is, some), empty, at_end)) =
    ap lines_of is ∙ last_line line none some ∙ ap (λ rest. line ∷ lines_of rest) (sym empty)

-- they are the first lines of the text
pub first_lines : (ended : Bool) (lines : List (List ℕ)) (text rest : List ℕ) → AreNext ended lines text rest → lines_of text ≡ lines ++ lines_of rest
first_lines ended [] text rest is = ap lines_of (sym is)
first_lines ended (line ∷ lines) text rest (behind, next, later) =
    first_of_lines ended line text behind next ∙ ap (λ others. line ∷ others) (first_lines ended lines behind rest later)

-- if nothing is left, they are the lines of the text
pub are_lines : (ended : Bool) (lines : List (List ℕ)) (text : List ℕ) → AreNext ended lines text [] → lines ≡ lines_of text
are_lines ended lines text are = sym (first_lines ended lines text [] are ∙ append-nil lines)

begun_by : (b : ℕ) (lines : List (List ℕ)) (text : List ℕ)
    → (flat_map with_line_feed lines ≡ text) ⊎ (flat_map with_line_feed lines ≡ with_line_feed text)
    → (flat_map with_line_feed (with_byte b lines) ≡ b ∷ text) ⊎ (flat_map with_line_feed (with_byte b lines) ≡ with_line_feed (b ∷ text))
begun_by b [] text (inl is) = inr (ap (λ t. b ∷ (t ++ 10 ∷ [])) is)
begun_by b [] [] (inr is) = inr refl
begun_by b [] (c ∷ text) (inr is) = cc
begun_by b (line ∷ lines) text (inl is) = inl (ap (λ t. b ∷ t) is)
begun_by b (line ∷ lines) text (inr is) = inr (ap (λ t. b ∷ t) is)

-- the lines, each followed by a line feed, are the text
pub lines_whole : (text : List ℕ) → (flat_map with_line_feed (lines_of text) ≡ text) ⊎ (flat_map with_line_feed (lines_of text) ≡ with_line_feed text)
lines_whole [] = inl refl
lines_whole (b ∷ text) =
    ⊎_elim
    (λ same.
    let feed : b ≡ 10 = eqb-true b 10 same in
    let here : eqb b 10 ≡ true = same in
    rw here
    (⊎_elim (λ is. inl (ap (λ t. 10 ∷ t) is ∙ ap (λ (c : ℕ). c ∷ text) (sym feed)))
    (λ is. inr (ap (λ t. 10 ∷ t) is ∙ ap (λ (c : ℕ). c ∷ with_line_feed text) (sym feed))) (lines_whole text)))
    (λ other. let here : eqb b 10 ≡ false = other in rw here (begun_by b (lines_of text) text (lines_whole text)))
    (cases_Bool (eqb b 10))

apart_by : (b : ℕ) (lines : List (List ℕ)) → eqb b 10 ≡ false → AllByRecursion HasNoLineFeed lines → AllByRecursion HasNoLineFeed (with_byte b lines)
apart_by b [] other all = (rw other refl, tt)
apart_by b (line ∷ lines) other (here, all) = (rw (other, here) refl, all)

-- no line contains a line feed
pub lines_apart : (text : List ℕ) → AllByRecursion HasNoLineFeed (lines_of text)
lines_apart [] = tt
lines_apart (b ∷ text) =
    ⊎_elim
    (λ same. let here : eqb b 10 ≡ true = same in rw here (refl, lines_apart text))
    (λ other. let here : eqb b 10 ≡ false = other in rw here (apart_by b (lines_of text) other (lines_apart text)))
    (cases_Bool (eqb b 10))
