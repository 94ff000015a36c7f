-- The bytes read from a connection that has ended (RFC 9112, section 9.6: the server reads on after its last response).
use Rattle.std.specs.Prelude.{◌≡◌, ◌+◌, ℕ, List, length, Option}
use Rattle.std.specs.Io.KnownBytes.{Consumes}

-- The next bytes were dropped, and the number that may still be dropped falls by their count.
abbrev pub Drops : Option (List ℕ) → ℕ → ℕ → Option (List ℕ) → Type 0
Drops before left left_after after = (bytes : List ℕ) × Consumes before after bytes × (left_after + length bytes ≡ left)

-- At most `most` bytes were dropped.
abbrev pub DropsAtMost : Option (List ℕ) → ℕ → Option (List ℕ) → Type 0
DropsAtMost before most after = (left : ℕ) × Drops before most left after
