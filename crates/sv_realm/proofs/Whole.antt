use Rattle.std.proofs.Common.{◌≡◌, ℕ, zero, suc, ◌*◌, List, length, refl, sym, ap, ◌∙◌, arith, length-append, w32}
use Rattle.std.specs.Int.{to_be_bytes}
use Rattle.std.specs.Prelude.{slice_index}
use Rattle.std.proofs.lemmas.Slice.Eq.{bytes_eq-Decides}
use Rattle.sha2.specs.Sha256.{digest_bytes, final_hash, initial_hash_256, sha256}
use Rattle.sv_realm.specs.Laws.{FitsByWholeDigest}

length-digest_bytes : (hash : List ℕ) (words : ℕ) → length (digest_bytes hash words) ≡ 4 * words
unfolding digest_bytes
length-digest_bytes hash zero = refl
length-digest_bytes hash (suc words) =
    let word : length (to_be_bytes w32 (slice_index hash words)) ≡ 4 = refl in
    length-append (digest_bytes hash words) (to_be_bytes w32 (slice_index hash words)) ∙ omega (arith, length-digest_bytes hash words)

length-sha256 : (message : List ℕ) → length (sha256 message) ≡ 32
unfolding sha256
length-sha256 message = length-digest_bytes (final_hash initial_hash_256 message) 8

pub fits_by_whole_digest : FitsByWholeDigest
fits_by_whole_digest user password h =
    sym (ap length ((bytes_eq-Decides _ user.digest).0 h)) ∙ length-sha256 _
