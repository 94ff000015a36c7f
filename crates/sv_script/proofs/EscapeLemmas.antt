-- The beginning of a text that is read.
use Rattle.std.proofs.Common.{◌≡◌, ℕ, ◌+◌, ◌*◌, false, eqb, List, [], ◌∷◌, ◌++◌, Some, None, Option, refl, sym, ap, ◌∙◌, append_assoc, append-nil}
use Rattle.std.proofs.lemmas.Bool.{ne_eqb}
use Rattle.std.specs.Option.{option_map, option_and_then}
use Rattle.sv_script.specs.Escape.{hex_byte, hex_digit, named_byte, preceded, preceded_by, unescaped}

pub plain_first : (b : ℕ) (rest : List ℕ) → eqb b 92 ≡ false → unescaped (b ∷ rest) ≡ preceded b (unescaped rest)
unfolding unescaped
plain_first b [] other = rw other refl
plain_first b (next ∷ []) other = rw other refl
plain_first b (next ∷ high ∷ []) other = rw other refl
plain_first b (next ∷ high ∷ low ∷ rest) other = rw other refl

pub named_first : (next : ℕ) (rest : List ℕ) → eqb next 120 ≡ false → unescaped (92 ∷ next ∷ rest) ≡ preceded_by (named_byte next) (unescaped rest)
unfolding unescaped
named_first next [] other = refl
named_first next (high ∷ []) other = refl
named_first next (high ∷ low ∷ rest) other = rw other refl

pub digits_first : (high low : ℕ) (rest : List ℕ) → unescaped (92 ∷ 120 ∷ high ∷ low ∷ rest) ≡ preceded_by (hex_byte high low) (unescaped rest)
unfolding unescaped
digits_first high low rest = refl

pub nothing_behind : unescaped (92 ∷ []) ≡ None
unfolding unescaped
nothing_behind = refl

pub no_digit_behind : unescaped (92 ∷ 120 ∷ []) ≡ None
unfolding unescaped
no_digit_behind = refl

pub one_digit_behind : (high : ℕ) → unescaped (92 ∷ 120 ∷ high ∷ []) ≡ None
unfolding unescaped
one_digit_behind high = refl

-- an escape with a letter
pub with_letter : (text rest : List ℕ) (letter : ℕ) → text ≡ letter ∷ rest → (letter ≡ 120 → ⊥) → unescaped (92 ∷ text) ≡ preceded_by (named_byte letter) (unescaped rest)
with_letter text rest letter first other = ap (λ behind. unescaped (92 ∷ behind)) first ∙ named_first letter rest (ne_eqb letter 120 other)

-- an escape with two hexadecimal digits
pub with_digits : (text low_on rest : List ℕ) (high low : ℕ) → text ≡ high ∷ low_on → low_on ≡ low ∷ rest
    → unescaped (92 ∷ 120 ∷ text) ≡ preceded_by (hex_byte high low) (unescaped rest)
with_digits text low_on rest high low first second =
    ap (λ digits. unescaped (92 ∷ 120 ∷ digits)) (first ∙ ap (λ digits. high ∷ digits) second) ∙ digits_first high low rest

pub both_read : (h l high low : ℕ) → hex_digit high ≡ Some h → hex_digit low ≡ Some l → hex_byte high low ≡ Some (16 * h + l)
both_read h l high low first second = rw (first, second) refl

pub no_high : (high low : ℕ) → hex_digit high ≡ None → hex_byte high low ≡ None
no_high high low none = rw none refl

without_low : (first : Option ℕ) → option_and_then (λ h. option_map (λ l. 16 * h + l) None) first ≡ None
without_low None = refl
without_low (Some h) = refl

pub no_low : (high low : ℕ) → hex_digit low ≡ None → hex_byte high low ≡ None
no_low high low none = rw none (without_low (hex_digit high))

pub nothing_read : (whole : Option (List ℕ)) → whole ≡ option_map (λ behind. [] ++ behind) whole
nothing_read None = refl
nothing_read (Some bytes) = refl

-- one byte more has been read
pub one_more_read : (whole rest behind : Option (List ℕ)) (read more : List ℕ) (b : ℕ)
    → whole ≡ option_map (λ bytes. read ++ bytes) rest → rest ≡ preceded b behind → more ≡ read ++ b ∷ [] → whole ≡ option_map (λ bytes. more ++ bytes) behind
one_more_read whole rest behind read more b is begins grows = is ∙ ap (option_map (λ bytes. read ++ bytes)) begins ∙ joined behind ∙ ap (λ text. option_map (λ bytes. text ++ bytes) behind) (sym grows)
  where
    joined : (behind : Option (List ℕ)) → option_map (λ bytes. read ++ bytes) (preceded b behind) ≡ option_map (λ bytes. (read ++ b ∷ []) ++ bytes) behind
    joined None = refl
    joined (Some bytes) = ap Some (sym (append_assoc read (b ∷ []) bytes))

-- no byte can be read
pub none_read : (whole rest : Option (List ℕ)) (read : List ℕ) → whole ≡ option_map (λ bytes. read ++ bytes) rest → rest ≡ None → None ≡ whole
none_read whole rest read is none = sym (is ∙ ap (option_map (λ bytes. read ++ bytes)) none)

-- all has been read
pub all_read : (whole : Option (List ℕ)) (rest read : List ℕ) → whole ≡ option_map (λ bytes. read ++ bytes) (unescaped rest) → rest ≡ [] → Some read ≡ whole
unfolding unescaped
all_read whole rest read is empty = sym (is ∙ ap (λ text. option_map (λ bytes. read ++ bytes) (unescaped text)) empty ∙ ap Some (append-nil read))
