-- Numbers of digits.
use Rattle.std.proofs.Common.{◌≡◌, ℕ, ◌<◌, ◌^◌, true, List, [], ◌∷◌, Ok, Err, Result, ◌∙◌, refl, sym, length}
use Rattle.std.proofs.lemmas.Str.Parse.{IsNumeralModel, numerals_by_value, parse_digits, tells_all_ascii_digits}
use Rattle.std.specs.Char.{is_ascii_digit}
use Rattle.std.specs.List.{list_all}
use Rattle.std.specs.Result.{OkIff, result_ok}
use Rattle.std.specs.Str.{all_ascii_digits}
use Rattle.std.specs.Str.Parse.{ParsesUnsigned, digits_value}
use Rattle.sv_arguments.specs.Values.{IsNumber}

digits_alone : (text : List ℕ) → all_ascii_digits text ≡ list_all is_ascii_digit text
digits_alone [] = refl
digits_alone (b ∷ text) = rw (digits_alone text) refl

model : IsNumeralModel (λ text. all_ascii_digits text ≡ true) (digits_value 10)
model = numerals_by_value _ tells_all_ascii_digits

number_read : {E : Type 0} (text : List ℕ) (r : Result ℕ E) → OkIff r ((0 < length text) × (digits_value 10 text < 2 ^ 32)) (digits_value 10 text)
    → IsNumber text (result_ok r)
number_read text (Ok value) (fits, is) = sym is
number_read text (Err fault) refused = λ some fits. refused (some, fits)

-- parsing digits gives the number that they write
pub number_parsed : {E : Type 0} (text : List ℕ) (r : Result ℕ E) → list_all is_ascii_digit text ≡ true → ParsesUnsigned 32 10 text r → IsNumber text (result_ok r)
number_parsed text r digits parsed = number_read text r (parse_digits model 32 text r parsed (digits_alone text ∙ digits))
