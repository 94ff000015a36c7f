-- A path of names is the canonical path of some target.
use Rattle.std.proofs.Common.{ℕ, ◌≡◌, ◌-◌, ◌<◌, ◌/◌, ◌%◌, Bool, true, false, not, cond, ◌||◌, ◌==◌, eqb, ltb, inl, inr, List, [], ◌∷◌, ◌++◌, map, drop, take, append-nil, Option, None, Some, Ok, refl, ap, subst, ◌∙◌, ⊎_elim, arith, suc}
use Rattle.std.specs.List.{All, last_or, list_all, list_any, flat_map, slice_split, onto_first, position_or_len}
use Rattle.std.specs.Option.{option_map}
use Rattle.std.specs.Str.{byte, is_utf8}
use Rattle.std.specs.Char.{is_digit}
use Rattle.std.specs.Fmt.{digit_glyph}
use Rattle.std.proofs.lemmas.Bool.{cases_Bool, both_ways, cond-true, cond-false, or_cases, or_parts, or_from, and_from, and_parts, and_right, not-true, agree_below_at, not_from_true, not_from_false, eqb-true}
use Rattle.std.proofs.lemmas.List.Elements.{All-nil, All-cons, All-head, All-tail, All-weaker}
use Rattle.std.proofs.lemmas.List.Folds.{list_any-append, list_any_none}
use Rattle.std.proofs.lemmas.List.Splits.{slice_split-cons_yes, slice_split-cons_no, slice_split_at, slice_split_none}
use Rattle.percent_encoding.specs.Percent.{percent_decode, percent_encode_byte}
use Rattle.percent_encoding.proofs.PercentLemmas.{IsEscapeByte, All-percent_encode_byte, percent_decode-nil, percent_decode-percent_encode_byte, percent_decode_not_percent}
use Rattle.sv_text.specs.Faults.{first_or}
use Rattle.sv_uri.proofs.LocationLemmas.{no_escape_byte, holds-escape, is_percent, is_bad, drop_first, digits_first, digits_written, digit_is_no_percent, escape_is_read}
use Rattle.sv_uri.specs.Target.{before, behind, between_slashes, segments_of, visible_query}
use Rattle.sv_uri.specs.Segment.{begins_with_digits, has_bad_escape, is_control, is_empty, is_parent, name_of, segment_faults}
use Rattle.sv_uri.specs.DotSegments.{climbs, closing, ends_open, kept, remaining, removed_in_front}
use Rattle.sv_uri.specs.Canonical.{canonical, path_text, raw_segments, target_faults}
use Rattle.sv_uri.specs.Shape.{is_dot_segment, may_stand_in_a_path}

-- The byte occurs in the text.
abbrev pub holds : ℕ → List ℕ → Bool
holds c text = list_any (λ b. b == c) text

-- A name of a path: a segment that is neither empty nor a dot segment.
pub record IsName (name : List ℕ) : Type 0 where
  pub slash : holds 47 name ≡ false
  pub plain : list_all may_stand_in_a_path name ≡ true
  pub utf8 : is_utf8 name ≡ true
  pub filled : is_empty name ≡ false
  pub undotted : is_dot_segment name ≡ false

-- A slash and then the name, for each name.
abbrev pub slashed : List (List ℕ) → List ℕ
slashed names = flat_map (λ name. 47 ∷ name) names

-- ---- A target in which only the bytes with a meaning are escaped.
abbrev is_special : ℕ → Bool
is_special b = (eqb b 37 || eqb b 59) || (eqb b 63 || eqb b 35)

abbrev written : ℕ → List ℕ
written b = cond (is_special b) (percent_encode_byte b) (b ∷ [])

abbrev encoded : List ℕ → List ℕ
encoded text = flat_map written text

special_small : (b : ℕ) → is_special b ≡ true → b < 256
special_small b is =
    elim (or_cases (eqb b 37 || eqb b 59) (eqb b 63 || eqb b 35) is) [
      | inl front ↦ elim (or_cases (eqb b 37) (eqb b 59) front) [ inl same ↦ small b 37 (eqb-true b 37 same) (omega arith) | inr same ↦ small b 59 (eqb-true b 59 same) (omega arith) ]
      | inr back ↦ elim (or_cases (eqb b 63) (eqb b 35) back) [ inl same ↦ small b 63 (eqb-true b 63 same) (omega arith) | inr same ↦ small b 35 (eqb-true b 35 same) (omega arith) ]
    ]
  where
    small : (b c : ℕ) → b ≡ c → c < 256 → b < 256
    small b c same within = omega (arith, same, within)

encoded_special : (b : ℕ) (text : List ℕ) → is_special b ≡ true → encoded (b ∷ text) ≡ percent_encode_byte b ++ encoded text
encoded_special b text is = ap (λ front. front ++ encoded text) (cond-true _ _ _ is)

encoded_plain : (b : ℕ) (text : List ℕ) → is_special b ≡ false → encoded (b ∷ text) ≡ b ∷ encoded text
encoded_plain b text is = ap (λ front. front ++ encoded text) (cond-false _ _ _ is)

-- A byte with a meaning occurs nowhere.
holds-special : (c : ℕ) → (IsEscapeByte c → ⊥) → is_special c ≡ true → (text : List ℕ) → holds c (encoded text) ≡ false
holds-special c never special [] = refl
holds-special c never special (b ∷ text) =
    ⊎_elim
    (λ is. rw (encoded_special b text is) (list_any-append (λ x. eqb x c) (percent_encode_byte b) (encoded text) ∙ or_from _ _ (holds-escape c b never) (holds-special c never special text)))
    (λ other.
    rw (encoded_plain b text other)
    (or_from _ _ (⊎_elim (λ it. absurd (both_ways (is_special b) other (ap is_special (eqb-true b c it) ∙ special))) (λ apart. apart) (cases_Bool (eqb b c))) (holds-special c never special text)))
    (cases_Bool (is_special b))

-- Another byte occurs only where it did.
holds-other : (c : ℕ) → (IsEscapeByte c → ⊥) → (text : List ℕ) → holds c text ≡ false → holds c (encoded text) ≡ false
holds-other c never [] none = refl
holds-other c never (b ∷ text) none =
    let parts = or_parts (eqb b c) (holds c text) none in
    ⊎_elim
    (λ is. rw (encoded_special b text is) (list_any-append (λ x. eqb x c) (percent_encode_byte b) (encoded text) ∙ or_from _ _ (holds-escape c b never) (holds-other c never text parts.1)))
    (λ other. rw (encoded_plain b text other) (or_from _ _ parts.0 (holds-other c never text parts.1)))
    (cases_Bool (is_special b))

decoded : (text : List ℕ) → percent_decode (encoded text) ≡ text
decoded [] = percent_decode-nil
decoded (b ∷ text) =
    ⊎_elim
    (λ is. rw (encoded_special b text is) (percent_decode-percent_encode_byte b (encoded text) (special_small b is) ∙ ap (λ x. b ∷ x) (decoded text)))
    (λ other. rw (encoded_plain b text other) (percent_decode_not_percent b (encoded text) (λ percent. both_ways (is_special b) other (ap is_special percent)) ∙ ap (λ x. b ∷ x) (decoded text)))
    (cases_Bool (is_special b))

-- ---- Escapes have their digits.

no_percent : (b : ℕ) → is_special b ≡ false → eqb b 37 ≡ false
no_percent b other = (or_parts (eqb b 37) (eqb b 59) (or_parts (eqb b 37 || eqb b 59) (eqb b 63 || eqb b 35) other).0).0

has_digits : (text : List ℕ) → has_bad_escape (encoded text) ≡ false
has_digits [] = refl
has_digits (b ∷ text) =
    ⊎_elim
    (λ is. rw (encoded_special b text is) (escape_is_read b (encoded text) (has_digits text)))
    (λ other. rw (encoded_plain b text other) (ap (λ parts. list_any is_bad (drop 1 parts)) (slice_split-cons_no is_percent b (encoded text) (no_percent b other)) ∙ (ap (list_any is_bad) (drop_first b (slice_split is_percent (encoded text))) ∙ has_digits text)))
    (cases_Bool (is_special b))

-- ---- Names have no fault and are read as themselves.
before_none : (c : ℕ) (text : List ℕ) → holds c text ≡ false → before c text ≡ text
before_none c [] none = refl
before_none c (b ∷ text) none =
    let parts = or_parts (eqb b c) (holds c text) none in
    ap (λ n. take n (b ∷ text)) (further parts.0) ∙ ap (λ x. b ∷ x) (before_none c text parts.1)
  where
    further : eqb b c ≡ false → position_or_len (λ x. eqb x c) (b ∷ text) ≡ suc (position_or_len (λ x. eqb x c) text)
    further other = cond-true _ _ _ (not_from_false _ other) ∙ omega arith

behind_none : (c : ℕ) (text : List ℕ) → holds c text ≡ false → behind c text ≡ None
behind_none c text none = cond-false _ _ _ none

unlikely : (text : List ℕ) → list_all may_stand_in_a_path text ≡ true → (list_any is_control text ≡ false) × (holds 92 text ≡ false)
unlikely [] plain = (refl, refl)
unlikely (b ∷ text) plain =
    let parts = and_parts (may_stand_in_a_path b) (list_all may_stand_in_a_path text) plain in
    let own = or_parts (is_control b) (eqb b 92) (not-true _ parts.0) in
    let rest = unlikely text parts.1 in
    (or_from _ _ own.0 rest.0, or_from _ _ own.1 rest.1)

no_semicolon : (name : List ℕ) → holds 59 (encoded name) ≡ false
no_semicolon name = holds-special 59 (λ is. grind arith) refl name

named : (name : List ℕ) → name_of (encoded name) ≡ name
named name = ap percent_decode (before_none 59 (encoded name) (no_semicolon name)) ∙ decoded name

faultless : (name : List ℕ) → IsName name → segment_faults (encoded name) ≡ []
faultless name it =
    let never = unlikely name it.plain in
    rw (before_none 59 (encoded name) (no_semicolon name), has_digits name, decoded name, it.slash, never.1, never.0, it.utf8, it.undotted, behind_none 59 (encoded name) (no_semicolon name), and_right (is_empty name) false refl) refl

all_faultless : (names : List (List ℕ)) → All IsName names → (flat_map segment_faults (map encoded names) ≡ []) × (map name_of (map encoded names) ≡ names)
all_faultless [] are = (refl, refl)
all_faultless (name ∷ names) are =
    let rest = all_faultless names (All-tail IsName name names are) in
    (rw (faultless name (All-head IsName name names are)) rest.0, rw (named name, rest.1) refl)

-- ---- The segments of the target.
none_all : {X : Type 0} (p : X → Bool) (xs : List X) → list_any p xs ≡ false → All (λ x. p x ≡ false) xs
none_all p [] none = All-nil (λ x. p x ≡ false)
none_all p (x ∷ xs) none =
    let parts = or_parts _ _ none in
    All-cons (λ y. p y ≡ false) x xs parts.0 (none_all p xs parts.1)

cut_at : (names : List (List ℕ)) → All (λ name. holds 47 name ≡ false) names → between_slashes (slashed names) ≡ [] ∷ names
cut_at [] slashless = refl
cut_at (name ∷ []) slashless =
    let none = none_all (λ b. eqb b 47) name (All-head (λ x. holds 47 x ≡ false) name [] slashless) in
    ap between_slashes (append-nil (47 ∷ name)) ∙ ap (λ parts. [] ∷ parts) (slice_split_none (λ b. eqb b 47) name none)
cut_at (name ∷ next ∷ more) slashless =
    let none = none_all (λ b. eqb b 47) name (All-head (λ x. holds 47 x ≡ false) name (next ∷ more) slashless) in
    let rest = cut_at (next ∷ more) (All-tail (λ x. holds 47 x ≡ false) name (next ∷ more) slashless) in
    let rest_parts : between_slashes (next ++ slashed more) ≡ next ∷ more = cc in
    rw (slice_split_at (λ b. eqb b 47) name 47 (next ++ slashed more) none refl, rest_parts) refl

slashless : (names : List (List ℕ)) → All IsName names → All (λ name. holds 47 name ≡ false) (map encoded names)
slashless [] are = All-nil (λ name. holds 47 name ≡ false)
slashless (name ∷ names) are =
    All-cons (λ x. holds 47 x ≡ false) (encoded name) (map encoded names) (holds-other 47 (λ is. grind arith) name (All-head IsName name names are).slash) (slashless names (All-tail IsName name names are))

-- A byte with a meaning is nowhere in the target.
absent : (c : ℕ) → (IsEscapeByte c → ⊥) → is_special c ≡ true → eqb 47 c ≡ false → (names : List (List ℕ)) → holds c (slashed (map encoded names)) ≡ false
absent c never special no_slash [] = refl
absent c never special no_slash (name ∷ names) =
    or_from _ _ no_slash (list_any-append (λ b. eqb b c) (encoded name) (slashed (map encoded names)) ∙ or_from _ _ (holds-special c never special name) (absent c never special no_slash names))

-- ---- All names remain.
all_kept : (names : List (List ℕ)) → All IsName names → kept names ≡ names
all_kept [] are = refl
all_kept (name ∷ names) are =
    let it = All-head IsName name names are in
    cond-true _ _ _ (not_from_false _ (or_from _ _ it.filled (or_parts _ _ it.undotted).0)) ∙ ap (λ rest. name ∷ rest) (all_kept names (All-tail IsName name names are))

all_remain : (names : List (List ℕ)) → All IsName names → (removed_in_front names ≡ 0) × (remaining names ≡ names)
all_remain [] are = (refl, refl)
all_remain (name ∷ names) are =
    let it = All-head IsName name names are in
    let no_parent : is_parent name ≡ false = (or_parts _ _ it.undotted).1 in
    let rest = all_remain names (All-tail IsName name names are) in
    let none : removed_in_front (name ∷ names) ≡ removed_in_front names - 1 = cond-false _ _ _ no_parent in
    (none ∙ ap (λ n. n - 1) rest.0, cond-false _ _ _ (or_from _ _ no_parent (ap (λ n. ltb 0 n) rest.0)) ∙ ap (λ xs. name ∷ xs) rest.1)

none_open : (names : List (List ℕ)) (last : Option (List ℕ)) → ends_open last ≡ false → All IsName names → ends_open (last_or last names) ≡ false
none_open [] last is are = is
none_open (name ∷ names) last is are =
    let it = All-head IsName name names are in
    let parts = or_parts _ _ it.undotted in
    none_open names (Some name) (or_from _ _ (or_from _ _ it.filled parts.0) parts.1) (All-tail IsName name names are)

all_closed : (names : List (List ℕ)) → All IsName names → closing names ≡ []
all_closed names are = cond-false _ _ _ (none_open names None refl are)

read_from : (text path : List ℕ) → target_faults text ≡ [] → path_text (raw_segments text) ≡ path → behind (byte "?") text ≡ None → canonical text ≡ Ok (record { path = path; query = None })
read_from text path no_fault same_text no_query =
    ap (λ faults. first_or faults (record { path = path_text (raw_segments text); query = option_map visible_query (behind 63 text) })) no_fault
    ∙ ap (λ (p : List ℕ). Ok (record { path = p; query = option_map visible_query (behind 63 text) })) same_text
    ∙ ap (λ (query : Option (List ℕ)). Ok (record { path = path; query = option_map visible_query query })) no_query

abbrev pub target_of : List (List ℕ) → List ℕ
target_of names = slashed (map encoded names)

pub canonical_names : (name : List ℕ) (names : List (List ℕ)) → All IsName (name ∷ names) → canonical (target_of (name ∷ names)) ≡ Ok (record { path = slashed (name ∷ names); query = None })
canonical_names name names are =
    let all = name ∷ names in
    let no_query = absent 63 (λ is. grind arith) refl refl all in
    let no_fragment = absent 35 (λ is. grind arith) refl refl all in
    let segments : raw_segments (target_of all) ≡ map encoded all = ap segments_of (before_none 63 (target_of all) no_query) ∙ ap (drop 1) (cut_at (map encoded all) (slashless all are)) in
    let again = all_faultless all are in
    let left = all_remain all are in
    let names_again : kept (map name_of (map encoded all)) ≡ all = ap kept again.1 ∙ all_kept all are in
    let no_climb : climbs (kept (map name_of (map encoded all))) ≡ false = rw (names_again, left.0) refl in
    let no_fault : target_faults (target_of all) ≡ [] = rw (no_fragment, segments, again.0, no_climb) refl in
    let same_text : path_text (raw_segments (target_of all)) ≡ slashed all = rw (segments, names_again, again.1, left.1, all_closed all are) (ap slashed (append-nil all)) in
    read_from (target_of all) (slashed all) no_fault same_text (behind_none 63 (target_of all) no_query)
