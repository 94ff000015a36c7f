-- The input of a closed connection, which is dropped (RFC 9112, section 9.6: the server reads on after its last
-- response).
use Rattle.std.specs.Prelude.{◌≡◌, ◌+◌, ℕ, List, length, Option}
use Rattle.std.specs.Io.KnownBytes.{Consumes}

-- the next bytes of the input were dropped, and the limit decreases by their number
abbrev pub Drops : Option (List ℕ) → ℕ → ℕ → Option (List ℕ) → Type 0
Drops before left left_after after = (bytes : List ℕ) × Consumes before after bytes × (left_after + length bytes ≡ left)
