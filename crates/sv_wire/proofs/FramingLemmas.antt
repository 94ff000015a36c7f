-- The framing field of a body, among other fields.
use Rattle.std.proofs.Common.{◌≡◌, ℕ, ◌^◌, ◌<◌, ◌≤◌, Bool, true, false, ◌&&◌, ◌||◌, not, leb, ltb, eqb, List, [], ◌∷◌, ◌++◌, length, map, reverse, filter, flat_map, codes, decimal, All, None, Some, refl, sym, ap, ap₂, ◌∙◌, arith, append-nil, le-leb, lt-ltb, eq-eqb, ne_eqb}
use Rattle.std.specs.Char.{is_ascii_digit}
use Rattle.std.specs.List.{list_all, list_any}
use Rattle.std.specs.Str.Parse.{AllDigits, digits_value}
use Rattle.std.proofs.lemmas.Bool.{and_from, and_parts, cond-false, cond-true, leb-true, or_from}
use Rattle.std.proofs.lemmas.Fmt.{decimal_is_IsNumeral, length-decimal-le}
use Rattle.std.proofs.lemmas.List.{reverse-reverse}
use Rattle.std.proofs.lemmas.List.Elements.{All-head, All-tail, All-weaker, filter-append}
use Rattle.std.proofs.lemmas.List.Folds.{list_any-append}
use Rattle.std.proofs.lemmas.List.Splits.{slice_split_none}
use Rattle.std.proofs.lemmas.List.Sums.{AllPass-from_list_all}
use Rattle.std.proofs.lemmas.Str.Parse.{digit_from_value}
use Rattle.httparse.specs.Grammar.{AllPass, is_ows, skip_ows, trim_ows}
use Rattle.httparse.proofs.TrimLemmas.{AllPass-reverse}
use Rattle.sv_wire.specs.declared.body_reader.Framing.TheVariants.{Chunked, Length}
use Rattle.sv_message.specs.declared.field.Field.{Field}
use Rattle.sv_message.specs.declared.limits.TheConstants.{MAX_LENGTH_DIGITS}
use Rattle.sv_message.specs.declared.codings.Codings.TheVariants as codings
use Rattle.sv_message.specs.Codings.{coding_kind, codings_in, kind_of}
use Rattle.sv_message.specs.Fields.{has_field, is_named, parts_of, values_of}
use Rattle.sv_message.specs.Length.{content_length, is_length, the_length}
use Rattle.sv_message.specs.declared.body.Body.TheVariants.{Flushed, Whole}
use Rattle.sv_wire.specs.Head.{faults_by_kind, number_or_0}
use Rattle.sv_wire.specs.declared.wire_fault.WireFault.TheVariants.{BadFraming}
use Rattle.sv_wire.specs.ResponseText.{framing_line}
use Rattle.sv_text.specs.Faults.{when}
use Rattle.sv_wire.specs.FramingFields.{SaysNoEnd, field}
use Rattle.sv_wire.specs.RoundTrip.{ChunkedFieldsAreReadBack, FramingLinesAreFields, LengthFieldsAreReadBack}

-- ---- a field among others

none_kept : (p : Field → Bool) (xs : List Field) → All (λ x. p x ≡ false) xs → filter p xs ≡ []
none_kept p [] none = refl
none_kept p (x ∷ xs) none =
    cond-false (p x) (x ∷ filter p xs) (filter p xs) (All-head (λ y. p y ≡ false) x xs none) ∙ none_kept p xs (All-tail (λ y. p y ≡ false) x xs none)

none_pass : (p : Field → Bool) (xs : List Field) → All (λ x. p x ≡ false) xs → list_any p xs ≡ false
none_pass p [] none = refl
none_pass p (x ∷ xs) none =
    or_from (p x) (list_any p xs) (All-head (λ y. p y ≡ false) x xs none) (none_pass p xs (All-tail (λ y. p y ≡ false) x xs none))

module _ (name : List ℕ) (one : Field) (before after : List Field) (first : All (λ x. is_named name x ≡ false) before)
    (last : All (λ x. is_named name x ≡ false) after) where
  abbrev among : List Field
  among = (before ++ (one ∷ [])) ++ after

  any_among : (t : Bool) → is_named name one ≡ t → has_field name among ≡ t
  any_among t is =
      list_any-append (is_named name) (before ++ (one ∷ [])) after
      ∙ ap₂ (λ x y. x || y) (list_any-append (is_named name) before (one ∷ [])
      ∙ ap₂ (λ x y. x || (y || false)) (none_pass (is_named name) before first) is) (none_pass (is_named name) after last)
      ∙ by_test t
    where
      by_test : (b : Bool) → ((false || (b || false)) || false) ≡ b
      by_test true = refl
      by_test false = refl

  value_among : is_named name one ≡ true → values_of name among ≡ one.value.bytes ∷ []
  value_among is =
      ap (map (λ field. field.value.bytes)) (filter-append (is_named name) (before ++ (one ∷ [])) after
      ∙ ap₂ (λ xs ys. xs ++ ys) (filter-append (is_named name) before (one ∷ [])
      ∙ ap₂ (λ xs ys. xs ++ ys) (none_kept (is_named name) before first) (cond-true (is_named name one) (one ∷ []) [] is))
      (none_kept (is_named name) after last))

-- The other fields have neither name.
no_length : (fields : List Field) → All SaysNoEnd fields → All (λ x. is_named (codes "content-length") x ≡ false) fields
no_length = All-weaker SaysNoEnd (λ x. is_named (codes "content-length") x ≡ false) (λ x other. other.0)

no_codings : (fields : List Field) → All SaysNoEnd fields → All (λ x. is_named (codes "transfer-encoding") x ≡ false) fields
no_codings = All-weaker SaysNoEnd (λ x. is_named (codes "transfer-encoding") x ≡ false) (λ x other. other.1)

-- ---- the digits of a length

digits_pass : (ds : List ℕ) → AllDigits 10 ds → list_all is_ascii_digit ds ≡ true
digits_pass [] all = refl
digits_pass (d ∷ ds) all =
    let range = digit_from_value d all.0 in
    and_from (is_ascii_digit d) (list_all is_ascii_digit ds)
    (and_from (leb 48 d) (leb d 57) (le-leb 48 d (omega (arith, range))) (le-leb d 57 (omega (arith, range)))) (digits_pass ds all.1)

digit_low : (d : ℕ) → is_ascii_digit d ≡ true → 48 ≤ d
digit_low d is = leb-true 48 d (and_parts (leb 48 d) (leb d 57) is).0

-- Digits do not change when blanks are dropped, and are one part of a list.
skip_ows_digits : (ds : List ℕ) → AllPass is_ascii_digit ds → skip_ows ds ≡ ds
skip_ows_digits [] pass = refl
skip_ows_digits (d ∷ ds) pass =
    let low = digit_low d (All-head (λ x. is_ascii_digit x ≡ true) d ds pass) in
    cond-false (is_ows d) (skip_ows ds) (d ∷ ds)
    (or_from (eqb d 32) (eqb d 9) (ne_eqb d 32 (λ same. omega (arith, low))) (ne_eqb d 9 (λ same. omega (arith, low))))

trim_ows_digits : (ds : List ℕ) → AllPass is_ascii_digit ds → trim_ows ds ≡ ds
unfolding trim_ows
trim_ows_digits ds pass =
    ap (λ xs. reverse (skip_ows (reverse xs))) (skip_ows_digits ds pass)
    ∙ ap reverse (skip_ows_digits (reverse ds) (AllPass-reverse is_ascii_digit ds pass)) ∙ reverse-reverse ds

parts_of_digits : (ds : List ℕ) → AllPass is_ascii_digit ds → parts_of ds ≡ ds ∷ []
parts_of_digits ds pass =
    slice_split_none (λ b. eqb b 44) ds
    (All-weaker (λ d. is_ascii_digit d ≡ true) (λ b. eqb b 44 ≡ false) (λ d is. ne_eqb d 44 (λ same. omega (arith, digit_low d is))) ds pass)

-- The length given by one value, the digits of a number.
length_said : (n : ℕ) → n < 10 ^ MAX_LENGTH_DIGITS → the_length (map trim_ows (flat_map parts_of (decimal n ∷ []))) ≡ Some n
length_said n small =
    let ds = decimal n in
    let numeral = decimal_is_IsNumeral n (omega arith) in
    let pass = AllPass-from_list_all is_ascii_digit ds (digits_pass ds numeral.0.1) in
    let few : length ds ≤ MAX_LENGTH_DIGITS = length-decimal-le 18 n (omega arith) (omega arith) (omega arith) in
    let is : is_length ds ≡ true =
    and_from (ltb 0 (length ds) && leb (length ds) MAX_LENGTH_DIGITS) (list_all is_ascii_digit ds)
    (and_from (ltb 0 (length ds)) (leb (length ds) MAX_LENGTH_DIGITS) (lt-ltb 0 (length ds) numeral.0.0) (le-leb (length ds) MAX_LENGTH_DIGITS few))
    (digits_pass ds numeral.0.1) in
    ap (λ parts. the_length (map trim_ows (parts ++ []))) (parts_of_digits ds pass)
    ∙ ap (λ text. the_length (text ∷ [])) (trim_ows_digits ds pass)
    ∙ cond-true ((is_length ds && eqb (digits_value 10 ds) (digits_value 10 ds)) && true) (Some (digits_value 10 ds)) None
    (and_from (is_length ds && eqb (digits_value 10 ds) (digits_value 10 ds)) true
    (and_from (is_length ds) (eqb (digits_value 10 ds) (digits_value 10 ds)) is (eq-eqb (digits_value 10 ds) (digits_value 10 ds) refl)) refl)
    ∙ ap Some numeral.1

-- ---- the laws

pub framing_lines_are_fields : FramingLinesAreFields
framing_lines_are_fields (Whole bytes) = sym (append-nil (framing_line (Whole bytes)))
framing_lines_are_fields (Flushed pieces true broken) = sym (append-nil (framing_line (Flushed pieces true broken)))
framing_lines_are_fields (Flushed pieces false broken) = refl

chunked_kind : kind_of (codings_in (flat_map parts_of (codes "chunked" ∷ []))) ≡ codings.Chunked
unfolding trim_ows
chunked_kind = refl

pub chunked_fields_are_read_back : ChunkedFieldsAreReadBack
chunked_fields_are_read_back pieces broken before after first last =
    let one = field (codes "transfer-encoding") (codes "chunked") in
    let fields = (before ++ (one ∷ [])) ++ after in
    let has : has_field (codes "transfer-encoding") fields ≡ true =
    any_among (codes "transfer-encoding") one before after (no_codings before first) (no_codings after last) true refl in
    let none : has_field (codes "content-length") fields ≡ false =
    any_among (codes "content-length") one before after (no_length before first) (no_length after last) false refl in
    let kind : coding_kind fields ≡ codings.Chunked =
    ap (λ values. kind_of (codings_in (flat_map parts_of values)))
    (value_among (codes "transfer-encoding") one before after (no_codings before first) (no_codings after last) refl) ∙ chunked_kind in (
      cond-true (has_field (codes "transfer-encoding") fields) Chunked _ has,
      cond-true (has_field (codes "transfer-encoding") fields) _ _ has ∙ (λ i. when (not (eqb 1 1) || none i) BadFraming ++ faults_by_kind (kind i)),
    )

pub length_fields_are_read_back : LengthFieldsAreReadBack
length_fields_are_read_back bytes before after first last small =
    let one = field (codes "content-length") (decimal (length bytes)) in
    let fields = (before ++ (one ∷ [])) ++ after in
    let none : has_field (codes "transfer-encoding") fields ≡ false =
    any_among (codes "transfer-encoding") one before after (no_codings before first) (no_codings after last) false refl in
    let said : content_length fields ≡ Some (length bytes) =
    ap (λ values. the_length (map trim_ows (flat_map parts_of values)))
    (value_among (codes "content-length") one before after (no_length before first) (no_length after last) refl) ∙ length_said (length bytes) small in
    (cond-false (has_field (codes "transfer-encoding") fields) Chunked _ none ∙ ap (λ length. Length (number_or_0 length)) said, said)
