-- A head without fields that describe a body.
use Rattle.std.proofs.Common.{◌≡◌, ℕ, Bool, true, false, not, ◌&&◌, ◌||◌, ◌==◌, None, List, [], ◌∷◌, ◌++◌, refl, ap, ◌∙◌, cond, nat_lt, codes, length, map}
use Rattle.std.specs.Prelude.{if◌then◌else◌, is_none}
use Rattle.std.specs.List.{filter, flat_map, list_any}
use Rattle.httparse.specs.Grammar.{trim_ows}
use Rattle.sv_wire.specs.declared.body_reader.Framing.TheVariants.{Length, Chunked}
use Rattle.sv_wire.specs.declared.limits.TheConstants.{MAX_BODY_LEN}
use Rattle.sv_message.specs.declared.field.Field.{Field}
use Rattle.sv_message.specs.Codings.{coding_kind}
use Rattle.sv_message.specs.Expectation.{asks_to_continue, is_continue}
use Rattle.sv_message.specs.Fields.{is_named, parts_of}
use Rattle.sv_message.specs.Length.{content_length, the_length}
use Rattle.std.specs.List.{list_all}
use Rattle.sv_text.specs.Faults.{when}
use Rattle.sv_wire.specs.declared.wire_fault.WireFault.TheVariants.{BadFraming, BodyTooLarge}
use Rattle.sv_wire.specs.Head.{tells_of_body, tell_of_body, has_codings, has_length, faults_by_kind, number_or_0, framing_faults, framing_of, is_unknown_expectation, awaits_continue, has_body}

either_none : (a b : Bool) → (a || b) ≡ false → (a ≡ false) × (b ≡ false)
either_none false b none = (refl, none)
either_none true b none = absurd (cc)

-- If no field describes a body, none passes a test that only such fields pass.
module _ (test : Field → Bool) (part : (field : Field) → tells_of_body field ≡ false → test field ≡ false) where
  no_field : (fields : List Field) → list_any tells_of_body fields ≡ false → (filter test fields ≡ []) × (list_any test fields ≡ false)
  no_field [] none = (refl, refl)
  no_field (field ∷ fields) none =
      let both = either_none (tells_of_body field) (list_any tells_of_body fields) none in
      let here = part field both.0 in
      let later = no_field fields both.1 in (
        ap (λ t. cond t (field ∷ filter test fields) (filter test fields)) here ∙ later.0,
        ap (λ t. t || list_any test fields) here ∙ later.1,
      )

module _ (fields : List Field) (none : tell_of_body fields ≡ false) where
  no_length : (filter (is_named (codes "content-length")) fields ≡ []) × (has_length fields ≡ false)
  no_length = no_field (is_named (codes "content-length")) (λ field no. (either_none _ _ no).0) fields none

  no_codings : has_codings fields ≡ false
  no_codings = (no_field (is_named (codes "transfer-encoding")) (λ field no. (either_none _ _ (either_none _ _ no).1).0) fields none).1

  no_expectation : (filter (is_named (codes "expect")) fields ≡ []) × (list_any (is_named (codes "expect")) fields ≡ false)
  no_expectation = no_field (is_named (codes "expect")) (λ field no. (either_none _ _ (either_none _ _ no).1).1) fields none

  no_content_length : content_length fields ≡ None
  no_content_length =
      ap (λ (named : List Field). the_length (map trim_ows (flat_map parts_of (map (λ (field : Field). field.value.bytes) named)))) no_length.0

  pub bare_framing : framing_of fields ≡ Length 0
  bare_framing =
      ap (λ t. if t then Chunked else Length (number_or_0 (content_length fields))) no_codings
      ∙ ap (λ n. Length (number_or_0 n)) no_content_length

  module _ (minor : ℕ) where
    pub bare_faults : framing_faults minor fields ≡ []
    bare_faults =
        ap (λ t. if t then when (not (minor == 1) || has_length fields) BadFraming ++ faults_by_kind (coding_kind fields)
        else when (has_length fields && is_none (content_length fields)) BadFraming
        ++ when (nat_lt MAX_BODY_LEN (number_or_0 (content_length fields))) BodyTooLarge) no_codings
        ∙ ap (λ t. when (t && is_none (content_length fields)) BadFraming
        ++ when (nat_lt MAX_BODY_LEN (number_or_0 (content_length fields))) BodyTooLarge) no_length.1
        ∙ ap (λ n. when (nat_lt MAX_BODY_LEN (number_or_0 n)) BodyTooLarge) no_content_length

    and_false : (t : Bool) → (t && false) ≡ false
    and_false true = refl
    and_false false = refl

    pub bare_expectation : is_unknown_expectation minor fields ≡ false
    bare_expectation = ap (λ t. minor == 1 && (t && not (asks_to_continue fields))) no_expectation.1 ∙ and_false (minor == 1)

    no_continue : asks_to_continue fields ≡ false
    no_continue =
        ap (λ (named : List Field). length (map (λ (field : Field). field.value.bytes) named) == 1
        && list_all is_continue (map (λ (field : Field). field.value.bytes) named)) no_expectation.0

    pub bare_continue : awaits_continue minor fields ≡ false
    bare_continue = ap (λ t. minor == 1 && (t && has_body (framing_of fields))) no_continue ∙ and_false (minor == 1)
