-- Texts that are followed by their codes.
use Rattle.std.proofs.Common.{◌≡◌, ℕ, zero, suc, ◌+◌, ◌-◌, ◌*◌, ◌<◌, true, false, List, ◌++◌, length, take, drop, refl, sym, ap, ◌∙◌, arith, length-append, w32}
use Rattle.std.specs.Int.{to_be_bytes}
use Rattle.std.specs.Prelude.{slice_index}
use Rattle.std.specs.Str.{bytes_eq}
use Rattle.std.proofs.lemmas.List.{drop_at, take_at}
use Rattle.std.proofs.lemmas.Slice.Eq.{bytes_eq-Decides}
use Rattle.sha2.specs.Sha256.{digest_bytes, final_hash, initial_hash_256, sha256}
use Rattle.sv_saved_sessions.specs.File.{IsAuthentic, signed}
use Rattle.sv_saved_sessions.specs.Hmac.{hmac_sha256, inner_pad, outer_pad, padded_key}

length-digest_bytes : (hash : List ℕ) (words : ℕ) → length (digest_bytes hash words) ≡ 4 * words
unfolding digest_bytes
length-digest_bytes hash zero = refl
length-digest_bytes hash (suc words) =
    let word : length (to_be_bytes w32 (slice_index hash words)) ≡ 4 = refl in
    length-append (digest_bytes hash words) (to_be_bytes w32 (slice_index hash words)) ∙ omega (arith, length-digest_bytes hash words)

length-sha256 : (message : List ℕ) → length (sha256 message) ≡ 32
unfolding sha256
length-sha256 message = length-digest_bytes (final_hash initial_hash_256 message) 8

pub code_length : (key text : List ℕ) → length (hmac_sha256 key text) ≡ 32
code_length key text = length-sha256 (padded_key outer_pad key ++ sha256 (padded_key inner_pad key ++ text))

pub signed_length : (key text : List ℕ) → length (signed key text) ≡ length text + 32
signed_length key text = omega (arith, length-append text (hmac_sha256 key text), code_length key text)

pub too_short : (key bytes : List ℕ) → length bytes < 32 → IsAuthentic key bytes → ⊥
too_short key bytes short (text, is) = absurd (omega (arith, signed_length key text, ap length is, short))

true_is_not_false : true ≡ false → ⊥
true_is_not_false e = absurd cc

-- The parts of a signed text, split before the last 32 bytes.
pub parts_of_signed : (key bytes text : List ℕ) → bytes ≡ signed key text
    → (take (length bytes - 32) bytes ≡ text) × (drop (length bytes - 32) bytes ≡ hmac_sha256 key text)
parts_of_signed key bytes text is =
    let len : length text ≡ length bytes - 32 = omega (arith, signed_length key text, ap length is) in (
      ap (take (length bytes - 32)) is ∙ take_at text (hmac_sha256 key text) (length bytes - 32) len,
      ap (drop (length bytes - 32)) is ∙ drop_at text (hmac_sha256 key text) (length bytes - 32) len,
    )

pub other_code : (key bytes content code : List ℕ) → content ≡ take (length bytes - 32) bytes → code ≡ drop (length bytes - 32) bytes
    → bytes_eq (hmac_sha256 key content) code ≡ false → IsAuthentic key bytes → ⊥
other_code key bytes content code front back differs (text, is) =
    let parts = parts_of_signed key bytes text is in
    let same : hmac_sha256 key content ≡ code = ap (hmac_sha256 key) (front ∙ parts.0) ∙ sym (back ∙ parts.1) in
    true_is_not_false (sym ((bytes_eq-Decides (hmac_sha256 key content) code).1 same) ∙ differs)

-- Two signed texts are equal only if the texts are.
pub same_text : (key text other : List ℕ) → signed key text ≡ signed key other → text ≡ other
same_text key text other is =
    let mine = parts_of_signed key (signed key text) text refl in
    let theirs = parts_of_signed key (signed key text) other is in
    sym mine.0 ∙ theirs.0
