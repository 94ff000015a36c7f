-- Reading the parts of a list in order gives the same result as reading the whole list.
use Rattle.std.proofs.Common.{◌≡◌, ℕ, ◌+◌, ◌*◌, ◌^◌, ◌<◌, ◌==◌, Bool, true, false, ◌&&◌, not, List, [], ◌∷◌, ◌++◌, length, map, Option, None, Some, refl, sym, ap, ◌∙◌, cond, eqb, ltb, leb, arith, take, get_or}
use Rattle.std.specs.List.{filter, flat_map, fold, list_all}
use Rattle.std.specs.Str.Parse.{digits_value, AllDigits}
use Rattle.std.specs.Char.{is_ascii_digit, digit_value}
use Rattle.std.proofs.lemmas.Bool.{and_parts, eq-eqb, ne_eqb, leb-true}
use Rattle.std.proofs.lemmas.List.{append_assoc}
use Rattle.std.proofs.lemmas.List.Sums.{AllPass-from_list_all}
use Rattle.std.proofs.lemmas.Int.Digits.{digits_value_more}
use Rattle.std.proofs.lemmas.Str.{digit_value_digit}
use Rattle.std.proofs.lemmas.Str.Parse.{digits_value_short, digits_value-take-le, numerals_by_value, tells_digits}
use Rattle.httparse.specs.Grammar.{trim_ows}
use Rattle.sv_message.specs.declared.codings.Codings.{Codings}
use Rattle.sv_message.specs.declared.codings.Codings.TheVariants as kind
use Rattle.sv_message.specs.declared.codings.Seen.{Seen}
use Rattle.sv_message.specs.declared.codings.Seen.TheVariants.{Nothing, Others, Chunked, OthersThenChunked, BehindChunked}
use Rattle.sv_message.specs.declared.field.Field.{Field}
use Rattle.sv_message.specs.declared.length.Lengths.{Lengths}
use Rattle.sv_message.specs.declared.length.Lengths.TheVariants as lengths
use Rattle.sv_message.specs.Codings.{plain_part, codings_in, is_chunked, ends_chunked, kind_of}
use Rattle.sv_message.specs.Fields.{is_named, parts_of, parts_by_name}
use Rattle.sv_message.specs.Length.{is_length, is_number, the_length}
use Rattle.sv_message.specs.Lengths.{length_of, next_length, length_with}
use Rattle.sv_message.specs.Seen.{next_seen, seen_with}

-- ---- the parts of all lists with one name

parts_one : (name : List ℕ) (field : Field) (t : Bool) (fields : List Field)
    → flat_map parts_of (map (λ (f : Field). f.value.bytes) (cond t (field ∷ fields) fields))
    ≡ flat_map parts_of (map (λ (f : Field). f.value.bytes) (cond t (field ∷ []) [])) ++ flat_map parts_of (map (λ (f : Field). f.value.bytes) fields)
parts_one name field true fields = ap (λ xs. xs ++ flat_map parts_of (map (λ (f : Field). f.value.bytes) fields)) (sym (append-none (parts_of field.value.bytes)))
  where
    append-none : (xs : List (List ℕ)) → xs ++ [] ≡ xs
    append-none [] = refl
    append-none (x ∷ xs) = ap (λ ys. x ∷ ys) (append-none xs)
parts_one name field false fields = refl

pub parts_by_name-append : (name : List ℕ) (fields more : List Field)
    → parts_by_name name (fields ++ more) ≡ parts_by_name name fields ++ parts_by_name name more
parts_by_name-append name [] more = refl
parts_by_name-append name (field ∷ fields) more =
    parts_one name field (is_named name field) (filter (is_named name) (fields ++ more))
    ∙ ap (λ xs. parts_by_name name (field ∷ []) ++ xs) (parts_by_name-append name fields more)
    ∙ sym (append_assoc (parts_by_name name (field ∷ [])) (parts_by_name name fields) (parts_by_name name more))
    ∙ ap (λ xs. xs ++ parts_by_name name more) (sym (parts_one name field (is_named name field) (filter (is_named name) fields)))

-- ---- codings

-- The kind of the codings, by the state after the last of them.
abbrev pub kind_seen : Seen → Codings
kind_seen Nothing = kind.Bad
kind_seen Others = kind.Bad
kind_seen Chunked = kind.Chunked
kind_seen OthersThenChunked = kind.Unknown
kind_seen BehindChunked = kind.Bad

abbrev see : Seen → List ℕ → Seen
see seen coding = next_seen seen (is_chunked coding)

see_parts : (seen : Seen) (parts : List (List ℕ)) → fold seen_with seen parts ≡ fold see seen (codings_in parts)
see_parts seen [] = refl
see_parts seen (part ∷ parts) = by_test (λ s. see_parts s parts) (length (plain_part part) == 0)
  where
    by_test : ((s : Seen) → fold seen_with s parts ≡ fold see s (codings_in parts))
        → (t : Bool) → fold seen_with (cond t seen (see seen (plain_part part))) parts
        ≡ fold see seen (cond (not t) (plain_part part ∷ codings_in parts) (codings_in parts))
    by_test later true = later seen
    by_test later false = later (see seen (plain_part part))

see_behind : (codings : List (List ℕ)) → fold see BehindChunked codings ≡ BehindChunked
see_behind [] = refl
see_behind (coding ∷ codings) = see_behind codings

see_others : (codings : List (List ℕ)) → kind_seen (fold see Others codings) ≡ cond (ends_chunked codings) kind.Unknown kind.Bad
see_others [] = refl
see_others (coding ∷ []) = by_test (is_chunked coding)
  where
    by_test : (t : Bool) → kind_seen (cond t OthersThenChunked Others) ≡ cond t kind.Unknown kind.Bad
    by_test true = refl
    by_test false = refl
see_others (coding ∷ next ∷ codings) = by_test (see_others (next ∷ codings)) (is_chunked coding)
  where
    by_test : kind_seen (fold see Others (next ∷ codings)) ≡ cond (ends_chunked (next ∷ codings)) kind.Unknown kind.Bad
        → (t : Bool) → kind_seen (fold see (cond t OthersThenChunked Others) (next ∷ codings))
        ≡ cond (not t && ends_chunked (next ∷ codings)) kind.Unknown kind.Bad
    by_test later true = ap kind_seen (see_behind codings)
    by_test later false = later

see_all : (codings : List (List ℕ)) → kind_seen (fold see Nothing codings) ≡ kind_of codings
see_all [] = refl
see_all (coding ∷ []) = by_test (is_chunked coding)
  where
    by_test : (t : Bool) → kind_seen (cond t Chunked Others) ≡ cond t kind.Chunked kind.Bad
    by_test true = refl
    by_test false = refl
see_all (coding ∷ next ∷ codings) =
    by_test (is_chunked coding)
    ∙ ap (λ t. cond (not (is_chunked coding) && ends_chunked (next ∷ codings)) (cond t kind.Chunked kind.Unknown) kind.Bad)
    (sym (ne_eqb (length (coding ∷ next ∷ codings)) 1 (λ same. omega (arith, same))))
  where
    by_test : (t : Bool) → kind_seen (fold see (cond t Chunked Others) (next ∷ codings))
        ≡ cond (not t && ends_chunked (next ∷ codings)) kind.Unknown kind.Bad
    by_test true = ap kind_seen (see_behind codings)
    by_test false = see_others (next ∷ codings)

pub kind_is_seen : (parts : List (List ℕ)) → kind_seen (fold seen_with Nothing parts) ≡ kind_of (codings_in parts)
kind_is_seen parts = ap kind_seen (see_parts Nothing parts) ∙ see_all (codings_in parts)

-- ---- lengths

-- The length in the state after the last text.
abbrev pub length_seen : Lengths → Option ℕ
length_seen lengths.Nothing = None
length_seen (lengths.Same number) = Some number
length_seen lengths.Bad = None

abbrev see_text : Lengths → List ℕ → Lengths
see_text seen text = next_length seen (length_of text)

see_lists : (seen : Lengths) (parts : List (List ℕ)) → fold length_with seen parts ≡ fold see_text seen (map trim_ows parts)
see_lists seen [] = refl
see_lists seen (part ∷ parts) = see_lists (length_with seen part) parts

see_bad : (texts : List (List ℕ)) → fold see_text lengths.Bad texts ≡ lengths.Bad
see_bad [] = refl
see_bad (text ∷ texts) = see_bad texts

see_same : (number : ℕ) (texts : List (List ℕ))
    → length_seen (fold see_text (lengths.Same number) texts) ≡ cond (list_all (is_number number) texts) (Some number) None
see_same number [] = refl
see_same number (text ∷ texts) = by_test (see_same number texts) (is_length text)
  where
    by_number : length_seen (fold see_text (lengths.Same number) texts) ≡ cond (list_all (is_number number) texts) (Some number) None
        → (t : Bool) → length_seen (fold see_text (cond t (lengths.Same number) lengths.Bad) texts)
        ≡ cond (t && list_all (is_number number) texts) (Some number) None
    by_number later true = later
    by_number later false = ap length_seen (see_bad texts)

    by_test : length_seen (fold see_text (lengths.Same number) texts) ≡ cond (list_all (is_number number) texts) (Some number) None
        → (t : Bool)
        → length_seen (fold see_text (next_length (lengths.Same number) (cond t (Some (digits_value 10 text)) None)) texts)
        ≡ cond ((t && eqb (digits_value 10 text) number) && list_all (is_number number) texts) (Some number) None
    by_test later true = by_number later (eqb (digits_value 10 text) number)
    by_test later false = ap length_seen (see_bad texts)

see_lengths : (texts : List (List ℕ)) → length_seen (fold see_text lengths.Nothing texts) ≡ the_length texts
see_lengths [] = refl
see_lengths (text ∷ texts) = by_test (is_length text)
  where
    by_test : (t : Bool) → length_seen (fold see_text (next_length lengths.Nothing (cond t (Some (digits_value 10 text)) None)) texts)
        ≡ cond ((t && eqb (digits_value 10 text) (digits_value 10 text)) && list_all (is_number (digits_value 10 text)) texts) (Some (digits_value 10 text)) None
    by_test true =
        see_same (digits_value 10 text) texts
        ∙ ap (λ t. cond (t && list_all (is_number (digits_value 10 text)) texts) (Some (digits_value 10 text)) None)
        (sym (eq-eqb (digits_value 10 text) (digits_value 10 text) refl))
    by_test false = ap length_seen (see_bad texts)

pub length_is_seen : (parts : List (List ℕ)) → length_seen (fold length_with lengths.Nothing parts) ≡ the_length (map trim_ows parts)
length_is_seen parts = ap length_seen (see_lists lengths.Nothing parts) ∙ see_lengths (map trim_ows parts)

-- ---- digits

pub digits_from : (text : List ℕ) → list_all is_ascii_digit text ≡ true → AllDigits 10 text
digits_from [] all = tt
digits_from (b ∷ text) all =
    let parts = and_parts (is_ascii_digit b) (list_all is_ascii_digit text) all in
    let range = and_parts _ _ parts.0 in
    let low = leb-true 48 b range.0 in
    let high = leb-true b 57 range.1 in
    (omega (arith, digit_value_digit b (low, high), high), digits_from text parts.1)

-- The value of the first digits, extended by one digit, fits in 64 bits.
pub digits_fit : (text : List ℕ) (i : ℕ) → is_length text ≡ true → i < length text
    → digits_value 10 (take i text) * 10 + digit_value (get_or text i 0) < 2 ^ 64
digits_fit text i valid inside =
    let all = and_parts (ltb 0 (length text) && leb (length text) 18) (list_all is_ascii_digit text) valid in
    let short = and_parts (ltb 0 (length text)) (leb (length text) 18) all.0 in
    let whole : digits_value 10 text < 10 ^ 18 =
    digits_value_short (numerals_by_value (AllDigits 10) tells_digits) text 18 (digits_from text all.1) (leb-true (length text) 18 short.1) in
    omega (arith, whole, digits_value_more 10 text i inside, digits_value-take-le 10 text (i + 1) (omega arith))

-- A digit is its value plus the code of `0`.
pub digit_is : (text : List ℕ) (i : ℕ) → is_length text ≡ true → i < length text
    → digit_value (get_or text i 0) + 48 ≡ get_or text i 0
digit_is text i valid inside =
    let all = and_parts (ltb 0 (length text) && leb (length text) 18) (list_all is_ascii_digit text) valid in
    let digit : is_ascii_digit (get_or text i 0) ≡ true = AllPass-from_list_all is_ascii_digit text all.1 i 0 inside in
    let range = and_parts _ _ digit in
    digit_value_digit (get_or text i 0) (leb-true 48 (get_or text i 0) range.0, leb-true (get_or text i 0) 57 range.1)
