-- Numbers of digits.
use Rattle.std.proofs.Common.{◌≡◌, ℕ, ◌<◌, ◌^◌, true, List, [], ◌∷◌, Ok, Err, Result, ◌∙◌, refl, length, arith}
use Rattle.std.proofs.lemmas.Bool.Decides.{nat_tests}
use Rattle.std.proofs.lemmas.Fmt.{IsAscii-from_digits}
use Rattle.std.proofs.lemmas.Str.{IsUtf8-from_ascii}
use Rattle.std.proofs.lemmas.Str.Parse.{IsNumeralModel, numerals_by_value, parse_digits, tells_all_ascii_digits}
use Rattle.std.specs.Char.{is_ascii_digit}
use Rattle.std.specs.List.{list_all}
use Rattle.std.specs.Result.{OkIff, result_ok}
use Rattle.std.specs.Str.{all_ascii_digits, IsUtf8}
use Rattle.std.specs.Str.Parse.{ParsesUnsigned, digits_value}
use Rattle.sv_audited_contexts.specs.LineFile.{number}

digits_alone : (text : List ℕ) → all_ascii_digits text ≡ list_all is_ascii_digit text
digits_alone [] = refl
digits_alone (b ∷ text) = rw (digits_alone text) refl

model : IsNumeralModel (λ text. all_ascii_digits text ≡ true) (digits_value 10)
model = numerals_by_value _ tells_all_ascii_digits

pub digits_are_utf8 : (text : List ℕ) → list_all is_ascii_digit text ≡ true → IsUtf8 text
digits_are_utf8 text digits =
    IsUtf8-from_ascii text (IsAscii-from_digits text (model.to text (digits_alone text ∙ digits)))

number_read : {E : Type 0} (text : List ℕ) (r : Result ℕ E) → list_all is_ascii_digit text ≡ true
    → OkIff r ((0 < length text) × (digits_value 10 text < 2 ^ 64)) (digits_value 10 text) → result_ok r ≡ number text
number_read text (Ok value) digits (fits, is) = rw (digits, is) (grind (arith, nat_tests))
number_read text (Err fault) digits refused = rw digits (grind (arith, nat_tests))

-- parsing digits returns the number that they denote
pub number_parsed : {E : Type 0} (text : List ℕ) (r : Result ℕ E) → list_all is_ascii_digit text ≡ true → ParsesUnsigned 64 10 text r → result_ok r ≡ number text
number_parsed text r digits parsed =
    number_read text r digits (parse_digits model 64 text r parsed (digits_alone text ∙ digits))
