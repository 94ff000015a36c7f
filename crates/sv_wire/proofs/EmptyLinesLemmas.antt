-- Empty lines when more bytes follow.
use Rattle.std.proofs.Common.{◌≡◌, ℕ, ◌≤◌, Bool, true, false, ◌&&◌, ◌||◌, List, [], ◌∷◌, ◌++◌, length, refl, sym, ap, ◌∙◌, cond, eqb, arith, length-append}
use Rattle.std.proofs.lemmas.Bool.{cond-true, cond-false}
use Rattle.std.proofs.lemmas.List.{append-nil}
use Rattle.sv_wire.specs.EmptyLines.{is_of_empty_line, drop_empty_lines}

-- A byte of an empty line stays one when bytes follow.
is_of_empty_line-append : (b : ℕ) (text more : List ℕ) → is_of_empty_line b text ≡ true → is_of_empty_line b (text ++ more) ≡ true
is_of_empty_line-append b [] more empty = by_test (eqb b 10) (eqb b 13) _ empty
  where
    by_test : (x y z : Bool) → (x || (y && false)) ≡ true → (x || (y && z)) ≡ true
    by_test true y z holds = refl
    by_test false true z holds = absurd (cc)
    by_test false false z holds = absurd (cc)
is_of_empty_line-append b (c ∷ text) more empty = empty

-- When more bytes follow, dropping empty lines depends only on the text after the empty lines.
pub drop_empty_lines-append : (text more : List ℕ) → drop_empty_lines (drop_empty_lines text ++ more) ≡ drop_empty_lines (text ++ more)
drop_empty_lines-append [] more = refl
drop_empty_lines-append (b ∷ text) more = by_test (drop_empty_lines-append text more) (is_of_empty_line b text) refl
  where
    by_test : drop_empty_lines (drop_empty_lines text ++ more) ≡ drop_empty_lines (text ++ more)
        → (t : Bool) → is_of_empty_line b text ≡ t
        → drop_empty_lines (cond t (drop_empty_lines text) (b ∷ text) ++ more) ≡ drop_empty_lines (b ∷ text ++ more)
    by_test later true empty =
        later ∙ sym (cond-true _ (drop_empty_lines (text ++ more)) (b ∷ (text ++ more)) (is_of_empty_line-append b text more empty))
    by_test later false full = refl

-- If at least two bytes follow the empty lines, no empty line begins there, even when more bytes follow.
pub drop_empty_lines_stays : (text more : List ℕ) → 2 ≤ length (drop_empty_lines text)
    → drop_empty_lines (text ++ more) ≡ drop_empty_lines text ++ more
drop_empty_lines_stays [] more long = absurd (omega arith)
drop_empty_lines_stays (b ∷ []) more long = by_test (is_of_empty_line b []) long
  where
    by_test : (t : Bool) → 2 ≤ length (cond t [] (b ∷ [])) → drop_empty_lines (b ∷ more) ≡ cond t [] (b ∷ []) ++ more
    by_test true some = absurd (omega arith)
    by_test false some = absurd (omega arith)
drop_empty_lines_stays (b ∷ c ∷ text) more long = by_test (drop_empty_lines_stays (c ∷ text) more) (is_of_empty_line b (c ∷ text)) refl long
  where
    by_test : (2 ≤ length (drop_empty_lines (c ∷ text)) → drop_empty_lines (c ∷ text ++ more) ≡ drop_empty_lines (c ∷ text) ++ more)
        → (t : Bool) → is_of_empty_line b (c ∷ text) ≡ t
        → 2 ≤ length (cond t (drop_empty_lines (c ∷ text)) (b ∷ c ∷ text))
        → drop_empty_lines (b ∷ c ∷ text ++ more) ≡ cond t (drop_empty_lines (c ∷ text)) (b ∷ c ∷ text) ++ more
    by_test later true empty some =
        cond-true _ (drop_empty_lines (c ∷ text ++ more)) (b ∷ c ∷ text ++ more) empty ∙ later some
    by_test later false full some =
        cond-false _ (drop_empty_lines (c ∷ text ++ more)) (b ∷ c ∷ text ++ more) full

pub drop_empty_lines_fits : (text : List ℕ) → length (drop_empty_lines text) ≤ length text
drop_empty_lines_fits [] = omega arith
drop_empty_lines_fits (b ∷ text) = by_test (drop_empty_lines_fits text) (is_of_empty_line b text)
  where
    by_test : length (drop_empty_lines text) ≤ length text → (t : Bool) → length (cond t (drop_empty_lines text) (b ∷ text)) ≤ length (b ∷ text)
    by_test later true = omega (arith, later)
    by_test later false = omega arith

-- A text that loses no byte begins with no empty line.
drop_empty_lines_none : (text : List ℕ) → length text ≤ length (drop_empty_lines text) → drop_empty_lines text ≡ text
drop_empty_lines_none [] long = refl
drop_empty_lines_none (b ∷ text) long = by_test (drop_empty_lines_fits text) (is_of_empty_line b text) long
  where
    by_test : length (drop_empty_lines text) ≤ length text → (t : Bool) → length (b ∷ text) ≤ length (cond t (drop_empty_lines text) (b ∷ text))
        → cond t (drop_empty_lines text) (b ∷ text) ≡ b ∷ text
    by_test fits true some = absurd (omega (arith, fits, some))
    by_test fits false some = refl

pub drop_empty_lines_twice : (text : List ℕ) → drop_empty_lines (drop_empty_lines text) ≡ drop_empty_lines text
drop_empty_lines_twice text =
    ap drop_empty_lines (sym (append-nil (drop_empty_lines text))) ∙ drop_empty_lines-append text [] ∙ ap drop_empty_lines (append-nil text)

-- If a text begins with no empty line, neither do its prefixes.
pub drop_empty_lines_front : (front rest : List ℕ) → drop_empty_lines (front ++ rest) ≡ front ++ rest → drop_empty_lines front ≡ front
drop_empty_lines_front front rest same =
    let joined : drop_empty_lines (drop_empty_lines front ++ rest) ≡ front ++ rest = drop_empty_lines-append front rest ∙ same in
    drop_empty_lines_none front
    (omega (
      arith,
      ap length joined,
      drop_empty_lines_fits (drop_empty_lines front ++ rest),
      length-append (drop_empty_lines front) rest,
      length-append front rest,
    ))
