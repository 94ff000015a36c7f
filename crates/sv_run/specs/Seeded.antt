-- Words of the key stream of ChaCha20 (RFC 8439, section 2.4).
use Rattle.std.specs.Prelude.{◌≡◌, ℕ, ◌+◌, ◌*◌, ◌^◌}
use Rattle.rand_chacha.specs.ChaCha.{ChaCha, next_word}

-- the next word of the key stream; ChaCha20 has ten double rounds
abbrev pub key_word : ChaCha → ℕ × ChaCha
key_word = next_word 10

-- a 64-bit number: the next two words, the high word first
abbrev pub long_word : ChaCha → ℕ × ChaCha
long_word generator =
    let high = key_word generator in
    let low = key_word high.1 in
    (high.0 * 2 ^ 32 + low.0, low.1)

-- a pair: the next two 64-bit numbers
abbrev pub Draws : ChaCha → ℕ × ℕ → ChaCha → Type 0
Draws before pair after =
    let first = long_word before in
    let second = long_word first.1 in
    (pair ≡ (first.0, second.0)) × (after ≡ second.1)
