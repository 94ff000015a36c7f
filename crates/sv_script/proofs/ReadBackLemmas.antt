-- The escaped text of bytes reads back as these bytes.
use Rattle.std.proofs.Common.{◌≡◌, ℕ, ◌+◌, ◌*◌, ◌/◌, ◌%◌, ◌<◌, Bool, true, false, cond, codes, eqb, List, [], ◌∷◌, ◌++◌, Some, refl, ap, ◌∙◌, ⊎_elim, arith}
use Rattle.std.proofs.lemmas.Bool.Decides.{eqb_tells, nat_tests}
use Rattle.std.proofs.lemmas.List.Elements.{All-head, All-tail}
use Rattle.std.specs.Char.{digit_value}
use Rattle.std.specs.Fmt.{digit_glyph}
use Rattle.sv_script.specs.Escape.{byte_text, escaped, hex_byte, hex_digit, hex_text, is_plain, preceded, preceded_by, unescaped}
use Rattle.sv_script.specs.Laws.{ReadsBack}
use Rattle.sv_script.proofs.EscapeLemmas.{both_read, digits_first, named_first, plain_first}

value_of_glyph : (d : ℕ) → d < 16 → digit_value (digit_glyph true d) ≡ d
value_of_glyph d small = grind (arith, nat_tests)

digit_read : (d : ℕ) → d < 16 → hex_digit (digit_glyph true d) ≡ Some d
digit_read d small = let is : digit_value (digit_glyph true d) ≡ d = value_of_glyph d small in rw is (grind (arith, nat_tests))

hex_read : (b : ℕ) (rest : List ℕ) → b < 256 → unescaped (hex_text b ++ rest) ≡ preceded b (unescaped rest)
hex_read b rest small =
    let high = digit_glyph true (b / 16) in
    let low = digit_glyph true (b % 16) in
    let read : hex_byte high low ≡ Some (16 * (b / 16) + b % 16) = both_read (b / 16) (b % 16) high low (digit_read (b / 16) (omega arith)) (digit_read (b % 16) (omega arith)) in
    let is : 16 * (b / 16) + b % 16 ≡ b = omega arith in
    digits_first high low rest ∙ ap (λ first. preceded_by first (unescaped rest)) (read ∙ ap Some is)

other_read : (b : ℕ) (rest : List ℕ) → b < 256 → eqb b 92 ≡ false → (plain : Bool) → unescaped (cond plain (b ∷ []) (hex_text b) ++ rest) ≡ preceded b (unescaped rest)
other_read b rest small other true = plain_first b rest other
other_read b rest small other false = hex_read b rest small

byte_read : (b : ℕ) (rest : List ℕ) → b < 256 → unescaped (byte_text b ++ rest) ≡ preceded b (unescaped rest)
byte_read b rest small =
    ⊎_elim
    (λ is. rw is.1 (named_first 114 rest refl))
    (λ isnt. rw isnt.0 (not_return isnt.0))
    (eqb_tells b 13)
  where
    not_backslash : eqb b 92 ≡ false → unescaped (cond (eqb b 92) (codes "\\\\") (cond (is_plain b) (b ∷ []) (hex_text b)) ++ rest) ≡ preceded b (unescaped rest)
    not_backslash other = rw other (other_read b rest small other (is_plain b))

    not_feed : eqb b 10 ≡ false → unescaped (cond (eqb b 92) (codes "\\\\") (cond (is_plain b) (b ∷ []) (hex_text b)) ++ rest) ≡ preceded b (unescaped rest)
    not_feed other =
        ⊎_elim
        (λ is. rw is.1 (named_first 92 rest refl))
        (λ isnt. not_backslash isnt.0)
        (eqb_tells b 92)

    not_return : eqb b 13 ≡ false → unescaped (cond (eqb b 10) (codes "\\n") (cond (eqb b 92) (codes "\\\\") (cond (is_plain b) (b ∷ []) (hex_text b))) ++ rest) ≡ preceded b (unescaped rest)
    not_return other =
        ⊎_elim
        (λ is. rw is.1 (named_first 110 rest refl))
        (λ isnt. rw isnt.0 (not_feed isnt.0))
        (eqb_tells b 10)

pub reads_back : ReadsBack
unfolding unescaped
reads_back [] small = refl
reads_back (b ∷ bytes) small =
    byte_read b (escaped bytes) (All-head (λ b. b < 256) b bytes small)
    ∙ ap (preceded b) (reads_back bytes (All-tail (λ b. b < 256) b bytes small))
