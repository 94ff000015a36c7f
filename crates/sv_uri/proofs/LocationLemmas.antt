-- Reading the location of a canonical path gives the same path.
use Rattle.std.proofs.Common.{ℕ, ◌≡◌, ◌+◌, ◌<◌, ◌≤◌, ◌/◌, ◌%◌, Bool, true, false, not, cond, ◌&&◌, eqb, ltb, List, [], ◌∷◌, ◌++◌, map, drop, Option, None, Ok, sym, refl, ap, subst, ◌∙◌, ⊎_elim, arith}
use Rattle.std.specs.List.{All, list_any, flat_map, slice_split, onto_first}
use Rattle.std.specs.Option.{option_map}
use Rattle.std.specs.Str.{byte, is_utf8}
use Rattle.std.proofs.lemmas.Bool.{cases_Bool, both_ways, cond-true, cond-false, cond_both, or_parts, or_from, and_from, and_parts, and_right, not-true, agree_below_at, not_from_true, not_from_false, eqb-true, ltb-true}
use Rattle.std.proofs.lemmas.List.Elements.{All-nil, All-cons, All-head, All-tail, All-append, All-weaker}
use Rattle.std.proofs.lemmas.List.Concat.{flat_map-append}
use Rattle.std.proofs.lemmas.List.Folds.{list_any-append, list_any_none}
use Rattle.std.proofs.lemmas.List.Splits.{slice_split-cons_yes, slice_split-cons_no}
use Rattle.std.proofs.lemmas.Str.{IsUtf8-from_is_utf8}
use Rattle.std.specs.Char.{is_digit}
use Rattle.std.specs.Fmt.{digit_glyph}
use lib.Utf8.{encode, encodes, scalar, scalars, scalar_cases}
use Rattle.percent_encoding.specs.declared.ascii_set.AsciiSet.{AsciiSet}
use Rattle.percent_encoding.specs.AsciiSet.{should_percent_encode}
use Rattle.percent_encoding.specs.Percent.{percent_decode, percent_encode, percent_encode_byte, encode_byte}
use Rattle.percent_encoding.proofs.PercentLemmas.{IsByte, IsEscapeByte, All-percent_encode_byte, percent_decode-nil, percent_decode-percent_encode_byte, percent_decode_not_percent}
use Rattle.sv_text.specs.Faults.{first_or}
use Rattle.sv_uri.specs.Target.{before, behind, segments_of, visible_query}
use Rattle.sv_uri.specs.Segment.{begins_with_digits, has_bad_escape, is_empty, name_of, segment_faults}
use Rattle.sv_uri.specs.DotSegments.{climbs, kept, remaining}
use Rattle.sv_uri.specs.Canonical.{canonical, begins_with_slash, path_text, raw_segments, target_faults}
use Rattle.sv_uri.specs.LocationField.{location, stays_in_location, LocationIsReadBack}
use Rattle.sv_uri.specs.Shape.{IsCanonicalPath, is_dot_segment}
use Rattle.sv_uri.proofs.TargetLemmas.{holds, slashed, before_none, behind_none, between_slashes-slashed}
use Rattle.sv_uri.proofs.SegmentLemmas.{IsPlain}
use Rattle.sv_uri.proofs.DotSegmentLemmas.{All-IsName-remaining, unremoved}
use Rattle.sv_uri.proofs.ItsOwnLemmas.{parts_of, parts_again, plain_parts, slashless, made_of_names}
use Rattle.sv_uri.proofs.ShapeLemmas.{canonical_has_shape}

-- ---- the bytes that the code writes

-- The bytes below 128 that are escaped.
abbrev pub escaped : AsciiSet
escaped = record { mask = 0xb8000001_78000000_d800002d_ffffffff }

escapes_others : (b : ℕ) → b < 256 → should_percent_encode escaped b ≡ not (stays_in_location b)
unfolding should_percent_encode
escapes_others b small = agree_below_at (should_percent_encode escaped) (λ x. not (stays_in_location x)) 256 b refl small

-- The bytes written for one byte.
abbrev written : ℕ → List ℕ
written b = cond (stays_in_location b) (b ∷ []) (percent_encode_byte b)

encode_byte-written : (b : ℕ) → b < 256 → encode_byte escaped b ≡ written b
encode_byte-written b small =
    ⊎_elim
    (λ stays. cond-false _ _ _ (escapes_others b small ∙ not_from_true _ stays) ∙ sym (cond-true _ _ _ stays))
    (λ other. cond-true _ _ _ (escapes_others b small ∙ not_from_false _ other) ∙ sym (cond-false _ _ _ other))
    (cases_Bool (stays_in_location b))

pub percent_encode-location : (path : List ℕ) → All IsByte path → percent_encode escaped path ≡ location path
unfolding percent_encode location
percent_encode-location [] small = refl
percent_encode-location (b ∷ path) small =
    ap (λ front. front ++ percent_encode escaped path) (encode_byte-written b (All-head IsByte b path small))
    ∙ ap (λ rest. written b ++ rest) (percent_encode-location path (All-tail IsByte b path small))

-- ---- locations byte by byte
location-nil : location [] ≡ []
unfolding location
location-nil = refl

location-cons : (b : ℕ) (text : List ℕ) → location (b ∷ text) ≡ written b ++ location text
unfolding location
location-cons b text = refl

location-stays : (b : ℕ) (text : List ℕ) → stays_in_location b ≡ true → location (b ∷ text) ≡ b ∷ location text
location-stays b text stays = location-cons b text ∙ ap (λ front. front ++ location text) (cond-true _ _ _ stays)

location-other : (b : ℕ) (text : List ℕ) → stays_in_location b ≡ false → location (b ∷ text) ≡ percent_encode_byte b ++ location text
location-other b text other = location-cons b text ∙ ap (λ front. front ++ location text) (cond-false _ _ _ other)

location-append : (xs ys : List ℕ) → location (xs ++ ys) ≡ location xs ++ location ys
unfolding location
location-append xs ys = flat_map-append (λ b. written b) xs ys

location-slashed : (parts : List (List ℕ)) → location (slashed parts) ≡ slashed (map location parts)
location-slashed [] = location-nil
location-slashed (part ∷ parts) = location-stays 47 (part ++ slashed parts) refl ∙ ap (λ text. 47 ∷ text) (location-append part (slashed parts) ∙ ap (λ rest. location part ++ rest) (location-slashed parts))

-- ---- a byte that occurs in no escape occurs in a location only if it is not escaped
abbrev StaysAway : ℕ → ℕ → Type 0
StaysAway c b = (stays_in_location b && eqb b c) ≡ false

pub no_escape_byte : (c b : ℕ) → (IsEscapeByte c → ⊥) → IsEscapeByte b → eqb b c ≡ false
no_escape_byte c b never is = ⊎_elim (λ it. absurd (never (subst IsEscapeByte (eqb-true b c it) is))) (λ other. other) (cases_Bool (eqb b c))

pub holds-escape : (c b : ℕ) → (IsEscapeByte c → ⊥) → holds c (percent_encode_byte b) ≡ false
holds-escape c b never = list_any_none (λ x. eqb x c) (percent_encode_byte b) (All-weaker IsEscapeByte (λ x. eqb x c ≡ false) (λ x is. no_escape_byte c x never is) (percent_encode_byte b) (All-percent_encode_byte b))

pub holds-location : (c : ℕ) (text : List ℕ) → (IsEscapeByte c → ⊥) → All (StaysAway c) text → holds c (location text) ≡ false
holds-location c [] never away = rw location-nil refl
holds-location c (b ∷ text) never away =
    let rest = holds-location c text never (All-tail (StaysAway c) b text away) in
    ⊎_elim
    (λ stays. rw (location-stays b text stays) (or_from _ _ (rw stays at (All-head (StaysAway c) b text away)) rest))
    (λ other. rw (location-other b text other) (list_any-append (λ x. eqb x c) (percent_encode_byte b) (location text) ∙ or_from _ _ (holds-escape c b never) rest))
    (cases_Bool (stays_in_location b))

-- A byte that is always escaped.
away_always : (c : ℕ) → stays_in_location c ≡ false → (text : List ℕ) → All (StaysAway c) text
away_always c other [] = All-nil (StaysAway c)
away_always c other (b ∷ text) =
    All-cons (StaysAway c) b text
    (⊎_elim (λ it. rw (eqb-true b c it) (rw other refl)) (λ apart. rw apart (and_right (stays_in_location b) false refl)) (cases_Bool (eqb b c)))
    (away_always c other text)

-- A byte that does not occur in the text.
away_from_none : (c : ℕ) (text : List ℕ) → holds c text ≡ false → All (StaysAway c) text
away_from_none c [] none = All-nil (StaysAway c)
away_from_none c (b ∷ text) none =
    let parts = or_parts (eqb b c) (holds c text) none in
    All-cons (StaysAway c) b text (rw parts.0 (and_right (stays_in_location b) false refl)) (away_from_none c text parts.1)

-- ---- decoding
percent_decode-location : (text : List ℕ) → All IsByte text → percent_decode (location text) ≡ text
percent_decode-location [] small = rw location-nil percent_decode-nil
percent_decode-location (b ∷ text) small =
    let rest = ap (λ x. b ∷ x) (percent_decode-location text (All-tail IsByte b text small)) in
    ⊎_elim
    (λ stays. rw (location-stays b text stays) (percent_decode_not_percent b (location text) (λ percent. both_ways (stays_in_location b) (rw percent refl) stays) ∙ rest))
    (λ other. rw (location-other b text other) (percent_decode-percent_encode_byte b (location text) (All-head IsByte b text small) ∙ rest))
    (cases_Bool (stays_in_location b))

-- ---- escapes have their digits
abbrev pub is_percent : ℕ → Bool
is_percent b = eqb b 37

abbrev pub is_bad : List ℕ → Bool
is_bad behind_percent = not (begins_with_digits behind_percent)

pub drop_first : (b : ℕ) (parts : List (List ℕ)) → drop 1 (onto_first b parts) ≡ drop 1 parts
drop_first b [] = refl
drop_first b (part ∷ parts) = refl

pub digits_first : (high low : ℕ) (parts : List (List ℕ)) → (begins_with_digits (high ∷ low ∷ [])) ≡ true → list_any is_bad (drop 1 parts) ≡ false → list_any is_bad (onto_first high (onto_first low parts)) ≡ false
digits_first high low [] digits rest = rw digits refl
digits_first high low (part ∷ parts) digits rest = or_from _ _ (not_from_true _ digits) rest

pub digits_written : (d : ℕ) → d < 16 → is_digit (digit_glyph true d) 16 ≡ true
digits_written d small = agree_below_at (λ x. is_digit (digit_glyph true x) 16) (λ _. true) 16 d refl small

pub digit_is_no_percent : (d : ℕ) → d < 16 → eqb (digit_glyph true d) 37 ≡ false
digit_is_no_percent d small = agree_below_at (λ x. eqb (digit_glyph true x) 37) (λ _. false) 16 d refl small

stays_no_percent : (b : ℕ) → stays_in_location b ≡ true → eqb b 37 ≡ false
stays_no_percent b stays = ⊎_elim (λ it. absurd (both_ways (stays_in_location b) (ap stays_in_location (eqb-true b 37 it)) stays)) (λ other. other) (cases_Bool (eqb b 37))

pub escape_is_read : (b : ℕ) (rest : List ℕ) → list_any is_bad (drop 1 (slice_split is_percent rest)) ≡ false → list_any is_bad (drop 1 (slice_split is_percent (percent_encode_byte b ++ rest))) ≡ false
unfolding percent_encode_byte
escape_is_read b rest before =
    let high = digit_glyph true (b / 16 % 16) in
    let low = digit_glyph true (b % 16) in
    let small_high : b / 16 % 16 < 16 = omega arith in
    let small_low : b % 16 < 16 = omega arith in
    let cut : slice_split is_percent (37 ∷ high ∷ low ∷ rest) ≡ [] ∷ onto_first high (onto_first low (slice_split is_percent rest)) =
    slice_split-cons_yes is_percent 37 (high ∷ low ∷ rest) refl
    ∙ ap (λ parts. [] ∷ parts) (slice_split-cons_no is_percent high (low ∷ rest) (digit_is_no_percent _ small_high) ∙ ap (onto_first high) (slice_split-cons_no is_percent low rest (digit_is_no_percent _ small_low)))
    in
    ap (λ parts. list_any is_bad (drop 1 parts)) cut ∙ digits_first high low (slice_split is_percent rest) (and_from _ _ (digits_written _ small_high) (digits_written _ small_low)) before

has_bad_escape-location : (text : List ℕ) → has_bad_escape (location text) ≡ false
has_bad_escape-location [] = rw location-nil refl
has_bad_escape-location (b ∷ text) =
    let rest = has_bad_escape-location text in
    ⊎_elim
    (λ stays. rw (location-stays b text stays) (ap (λ parts. list_any is_bad (drop 1 parts)) (slice_split-cons_no is_percent b (location text) (stays_no_percent b stays)) ∙ (ap (list_any is_bad) (drop_first b (slice_split is_percent (location text))) ∙ rest)))
    (λ other. rw (location-other b text other) (escape_is_read b (location text) rest))
    (cases_Bool (stays_in_location b))

-- ---- the bytes of a text are bytes
one : (a : ℕ) → a < 256 → All IsByte (a ∷ [])
one a small = All-cons IsByte a [] small (All-nil IsByte)

-- A byte after a lead byte.
later : (bits : ℕ) (rest : List ℕ) → All IsByte rest → All IsByte ((128 + bits % 64) ∷ rest)
later bits rest all = All-cons IsByte (128 + bits % 64) rest (omega arith) all

bytes_of_char : (c : ℕ) → scalar c ≡ true → All IsByte (encode c)
unfolding encode
bytes_of_char c is =
    let limit : c < 1114112 = ⊎_elim (λ (low : c < 55296). omega arith) (λ (high : (57344 ≤ c) × (c < 1114112)). high.1) (scalar_cases c is) in
    let last = later c [] (All-nil IsByte) in
    let last_two = later (c / 64) ((128 + c % 64) ∷ []) last in
    let last_three = later (c / 4096) ((128 + c / 64 % 64) ∷ (128 + c % 64) ∷ []) last_two in
    let four : List ℕ = (240 + c / 262144) ∷ (128 + c / 4096 % 64) ∷ (128 + c / 64 % 64) ∷ (128 + c % 64) ∷ [] in
    let three : List ℕ = (224 + c / 4096) ∷ (128 + c / 64 % 64) ∷ (128 + c % 64) ∷ [] in
    let two : List ℕ = (192 + c / 64) ∷ (128 + c % 64) ∷ [] in
    cond_both (ltb c 128) (c ∷ []) (cond (ltb c 2048) two (cond (ltb c 65536) three four)) (All IsByte)
    (λ e. let small = ltb-true c 128 e in one c (omega arith))
    (λ _. cond_both (ltb c 2048) two (cond (ltb c 65536) three four) (All IsByte)
    (λ e. let small = ltb-true c 2048 e in All-cons IsByte (192 + c / 64) ((128 + c % 64) ∷ []) (omega arith) last)
    (λ _. cond_both (ltb c 65536) three four (All IsByte)
    (λ e. let small = ltb-true c 65536 e in All-cons IsByte (224 + c / 4096) ((128 + c / 64 % 64) ∷ (128 + c % 64) ∷ []) (omega arith) last_two)
    (λ _. All-cons IsByte (240 + c / 262144) ((128 + c / 4096 % 64) ∷ (128 + c / 64 % 64) ∷ (128 + c % 64) ∷ []) (omega arith) last_three)))

bytes_of_chars : (cs : List ℕ) → scalars cs ≡ true → All IsByte (encodes cs)
bytes_of_chars [] are = All-nil IsByte
bytes_of_chars (c ∷ cs) are =
    let parts = and_parts _ _ are in
    All-append IsByte (encode c) (encodes cs) (bytes_of_char c parts.0) (bytes_of_chars cs parts.1)

pub bytes_of_text : (text : List ℕ) → is_utf8 text ≡ true → All IsByte text
bytes_of_text text is =
    let spelled = IsUtf8-from_is_utf8 text is in
    subst (All IsByte) spelled.1.1 (bytes_of_chars spelled.0 spelled.1.0)

-- ---- plain names, written as segments, have no fault and are read as themselves
no_semicolon : (name : List ℕ) → holds 59 (location name) ≡ false
no_semicolon name = holds-location 59 name (λ is. grind arith) (away_always 59 refl name)

name_of-location : (name : List ℕ) → All IsByte name → name_of (location name) ≡ name
name_of-location name small = ap percent_decode (before_none 59 (location name) (no_semicolon name)) ∙ percent_decode-location name small

abbrev IsUndotted : List ℕ → Type 0
IsUndotted segment = not (is_dot_segment segment) ≡ true

faultless-location : (name : List ℕ) → IsPlain name → All IsByte name → IsUndotted name → segment_faults (location name) ≡ []
faultless-location name plain small undotted =
    let no_dots : is_dot_segment name ≡ false = not-true _ undotted in
    rw (before_none 59 (location name) (no_semicolon name), has_bad_escape-location name, percent_decode-location name small, plain.slash, plain.backslash, plain.control, plain.utf8, no_dots, behind_none 59 (location name) (no_semicolon name), and_right (is_empty name) false refl) refl

faultless_parts : (parts : List (List ℕ)) → All IsPlain parts → All IsUndotted parts → (flat_map segment_faults (map location parts) ≡ []) × (map name_of (map location parts) ≡ parts)
faultless_parts [] plain undotted = (refl, refl)
faultless_parts (part ∷ parts) plain undotted =
    let own = All-head IsPlain part parts plain in
    let small = bytes_of_text part own.utf8 in
    let behind_it = faultless_parts parts (All-tail IsPlain part parts plain) (All-tail IsUndotted part parts undotted) in
    (rw (faultless-location part own small (All-head IsUndotted part parts undotted)) behind_it.0, rw (name_of-location part small, behind_it.1) refl)

slashless_parts : (parts : List (List ℕ)) → All IsPlain parts → All (λ part. holds (byte "/") part ≡ false) (map location parts)
slashless_parts [] plain = All-nil (λ part. holds 47 part ≡ false)
slashless_parts (part ∷ parts) plain =
    let own = All-head IsPlain part parts plain in
    All-cons (λ x. holds 47 x ≡ false) (location part) (map location parts)
    (holds-location 47 part (λ is. grind arith) (away_from_none 47 part own.slash))
    (slashless_parts parts (All-tail IsPlain part parts plain))

begins-location : (path : List ℕ) → begins_with_slash path ≡ true → begins_with_slash (location path) ≡ true
begins-location [] slash = cc
begins-location (b ∷ path) slash = rw (eqb-true b 47 slash, location-stays 47 path refl) refl

-- ---- the whole path
read_from : (text path : List ℕ) → target_faults text ≡ [] → path_text (raw_segments text) ≡ path → behind (byte "?") text ≡ None → canonical text ≡ Ok (record { path = path; query = None })
read_from text path no_fault same_text no_query =
    ap (λ faults. first_or faults (record { path = path_text (raw_segments text); query = option_map visible_query (behind 63 text) })) no_fault
    ∙ ap (λ (p : List ℕ). Ok (record { path = p; query = option_map visible_query (behind 63 text) })) same_text
    ∙ ap (λ (query : Option (List ℕ)). Ok (record { path = path; query = option_map visible_query query })) no_query

read_back : (names : List (List ℕ)) → All IsPlain names → IsCanonicalPath (slashed (parts_of names)) → canonical (location (slashed (parts_of names))) ≡ Ok (record { path = slashed (parts_of names); query = None })
read_back names plain shape =
    let parts = parts_of names in
    let path = slashed parts in
    let plain_all = plain_parts names plain in
    let its_segments : segments_of path ≡ parts = ap (drop 1) (between_slashes-slashed parts (slashless parts plain_all)) in
    let undotted : All IsUndotted parts = subst (All IsUndotted) its_segments shape.undotted in
    let no_query = holds-location 63 path (λ is. grind arith) (away_always 63 refl path) in
    let no_fragment = holds-location 35 path (λ is. grind arith) (away_always 35 refl path) in
    let segments : raw_segments (location path) ≡ map location parts = ap segments_of (before_none 63 (location path) no_query ∙ location-slashed parts) ∙ ap (drop 1) (between_slashes-slashed (map location parts) (slashless_parts parts plain_all)) in
    let again = faultless_parts parts plain_all undotted in
    let same = parts_again names in
    let left = unremoved (remaining (kept names)) (All-IsName-remaining (kept names)) in
    let no_climb : climbs (kept (map name_of (map location parts))) ≡ false = rw (again.1, same.0, left.0) refl in
    let no_fault : target_faults (location path) ≡ [] = rw (no_fragment, begins-location path shape.rooted, segments, again.0, no_climb) refl in
    let same_text : path_text (raw_segments (location path)) ≡ path = rw (segments, again.1, same.0, same.1, left.1) refl in
    read_from (location path) path no_fault same_text (behind_none 63 (location path) no_query)

pub location_is_read_back : LocationIsReadBack
location_is_read_back target canon given =
    let from = made_of_names target canon given in
    let shape = subst IsCanonicalPath (sym from.made) (canonical_has_shape target canon given) in
    subst (λ (path : List ℕ). canonical (location path) ≡ Ok (record { path = path; query = None })) from.made
    (read_back (map name_of (raw_segments target)) from.plain shape)
