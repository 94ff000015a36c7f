-- Segments without a fault.
use Rattle.std.proofs.Common.{ℕ, ◌≡◌, Bool, true, false, ◌||◌, eqb, List, [], ◌∷◌, ◌++◌, map, Result, Ok, Err, MatchResult, is_ok, IsUtf8, sym, refl, ap, ◌∙◌}
use Rattle.std.specs.List.{All, list_any, flat_map}
use Rattle.std.specs.Str.{byte, bytes_eq, is_utf8}
use Rattle.std.proofs.lemmas.Bool.{or_parts, not-false, eqb-false, false_from_ne_true, and_right}
use Rattle.std.proofs.lemmas.List.Elements.{All-nil, All-cons}
use Rattle.std.proofs.lemmas.List.Splits.{slice_split_none}
use Rattle.std.proofs.lemmas.Slice.Eq.{bytes_eq-Decides}
use Rattle.std.proofs.lemmas.Str.{IsUtf8-nil, IsUtf8-from_is_utf8, is_utf8-from_IsUtf8}
use Rattle.percent_encoding.specs.Percent.{percent_decode}
use Rattle.percent_encoding.proofs.PercentLemmas.{percent_decode-nil, percent_decode_not_percent}
use Rattle.sv_uri.specs.declared.fault.PathFault.{PathFault}
use Rattle.sv_text.specs.Faults.{when}
use Rattle.sv_uri.specs.Segment.{name_of, is_control, is_empty, is_same, is_parent, has_bad_escape, name_faults, segment_faults}
use Rattle.sv_uri.proofs.TargetLemmas.{holds, before_none, behind_none, none_All}

-- The name has no fault of its own.
pub record IsPlain (name : List ℕ) : Type 0 where
  pub slash : holds (byte "/") name ≡ false
  pub backslash : holds (byte "\\") name ≡ false
  pub control : list_any is_control name ≡ false
  pub utf8 : is_utf8 name ≡ true

pub when_none : (test : Bool) (fault : PathFault) → when test fault ≡ [] → test ≡ false
when_none true fault none = cc
when_none false fault none = refl

pub append_none : {X : Type 0} (xs ys : List X) → xs ++ ys ≡ [] → (xs ≡ []) × (ys ≡ [])
append_none [] ys none = (refl, none)
append_none (x ∷ xs) ys none = cc

pub plain_from_faultless : (segment name : List ℕ) → name_faults segment name ≡ [] → IsPlain name
plain_from_faultless segment name none =
    let to_parameter = append_none _ _ none in
    let to_dots = append_none _ _ to_parameter.0 in
    let to_utf8 = append_none _ _ to_dots.0 in
    let to_control = append_none _ _ to_utf8.0 in
    let to_backslash = append_none _ _ to_control.0 in
    record {
      slash = when_none _ _ to_backslash.0;
      backslash = when_none _ _ to_backslash.1;
      control = when_none _ _ to_control.1;
      utf8 = not-false _ (when_none _ _ to_utf8.1);
    }

pub All-IsPlain : (segments : List (List ℕ)) → flat_map segment_faults segments ≡ [] → All IsPlain (map name_of segments)
All-IsPlain [] none = All-nil IsPlain
All-IsPlain (segment ∷ segments) none =
    let parts = append_none _ _ none in
    let own = append_none _ _ parts.0 in
    All-cons IsPlain (name_of segment) (map name_of segments) (plain_from_faultless segment _ own.1) (All-IsPlain segments parts.1)

pub IsPlain-nil : IsPlain []
IsPlain-nil = record { slash = refl; backslash = refl; control = refl; utf8 = is_utf8-from_IsUtf8 [] IsUtf8-nil }

-- Decoding does not change bytes without `%`.
pub percent_decode_none : (text : List ℕ) → holds (byte "%") text ≡ false → percent_decode text ≡ text
percent_decode_none [] none = percent_decode-nil
percent_decode_none (b ∷ text) none =
    let parts = or_parts _ _ none in
    percent_decode_not_percent b text (eqb-false b 37 parts.0) ∙ ap (λ x. b ∷ x) (percent_decode_none text parts.1)

pub bytes_eq_same : (text : List ℕ) → bytes_eq text text ≡ true
bytes_eq_same text = (bytes_eq-Decides text text).1 refl

-- A plain name without `%` and `;` is a segment that names itself and has no fault.
pub name_of_literal : (name : List ℕ) → holds (byte "%") name ≡ false → holds (byte ";") name ≡ false → name_of name ≡ name
name_of_literal name percentless semicolonless = ap percent_decode (before_none 59 name semicolonless) ∙ percent_decode_none name percentless

pub faultless_literal : (name : List ℕ) → IsPlain name → holds (byte "%") name ≡ false → holds (byte ";") name ≡ false → segment_faults name ≡ []
faultless_literal name plain percentless semicolonless =
    let no_escape : has_bad_escape name ≡ false = rw (slice_split_none (λ b. eqb b 37) name (none_All (λ b. eqb b 37) name percentless)) refl in
    rw (before_none 59 name semicolonless, percent_decode_none name percentless, no_escape, plain.slash, plain.backslash, plain.control, plain.utf8, bytes_eq_same name, behind_none 59 name semicolonless, and_right (is_same name || is_parent name) false refl, and_right (is_empty name) false refl) refl

-- A result that is a text exactly for UTF-8 gives the result of the test.
pub is_ok-is_utf8 : {A E : Type 0} (P : A → Type 0) (Q : E → Type 0) (result : Result A E) (bytes : List ℕ) → MatchResult result (λ text. P text × IsUtf8 bytes) (λ e. ¬ (IsUtf8 bytes) × Q e) → is_ok result ≡ is_utf8 bytes
is_ok-is_utf8 P Q (Ok text) bytes is_text = sym (is_utf8-from_IsUtf8 bytes is_text.1)
is_ok-is_utf8 P Q (Err e) bytes no_text = sym (false_from_ne_true (is_utf8 bytes) (λ utf8. no_text.0 (IsUtf8-from_is_utf8 bytes utf8)))
