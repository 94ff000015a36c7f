-- HMAC-SHA-256 (RFC 2104, section 2; SHA-256 by FIPS 180-4, section 6.2).
use Rattle.std.specs.Prelude.{ℕ, ◌-◌, List, ◌++◌, bit_xor, codes, length, map, replicate}
use Rattle.sha2.specs.Hashers.{Holds256}
use Rattle.sha2.specs.Sha256.{sha256}
use Rattle.sv_saved_sessions.specs.declared.hmac.Hmac.{Hmac}

-- The length of a block of SHA-256, in bytes (B in the RFC).
abbrev pub block_bytes : ℕ
block_bytes = 64

-- The bytes of the inner and of the outer pad.
abbrev pub inner_pad : ℕ
inner_pad = 0x36

abbrev pub outer_pad : ℕ
outer_pad = 0x5C

-- A key of at most a block, followed by zeros up to a whole block.
abbrev pub whole_block : List ℕ → List ℕ
whole_block key = key ++ replicate (block_bytes - length key) 0

-- The key as a whole block, each byte combined with the pad.
abbrev pub padded_key : ℕ → List ℕ → List ℕ
padded_key pad key = map (λ byte. bit_xor byte pad) (whole_block key)

-- The code of a message, for a key of at most a block.
abbrev pub hmac_sha256 : List ℕ → List ℕ → List ℕ
hmac_sha256 key message = sha256 (padded_key outer_pad key ++ sha256 (padded_key inner_pad key ++ message))

-- The value computes the code of this key, and the message so far is this one.
abbrev pub HoldsMessage : List ℕ → Hmac → List ℕ → Type 0
HoldsMessage key hmac message =
    Holds256 hmac.inner (padded_key inner_pad key ++ message) × Holds256 hmac.outer (padded_key outer_pad key)

-- The key of the files, from a secret.
abbrev pub file_key : List ℕ → List ℕ
file_key seed = hmac_sha256 seed (codes "fitskhela sessions 1")
