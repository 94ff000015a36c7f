-- A text in the caller's buffer.
use Rattle.std.specs.Prelude.{◌≡◌, ◌≤◌, ◌<◌, ℕ, Bool, true, false, List, ◌++◌, length, drop}

-- the text is at the front of the buffer, the other bytes are unchanged, and the length is that of the text
abbrev pub IsWritten : List ℕ → List ℕ → List ℕ → ℕ → Type 0
IsWritten text old new size = (new ≡ text ++ drop (length text) old) × (length text ≤ length old) × (size ≡ length text)

-- the text is longer than the buffer, which is unchanged
abbrev pub IsShort : List ℕ → List ℕ → List ℕ → ℕ → Type 0
IsShort text old new size = (new ≡ old) × (length old < length text) × (size ≡ length text)

abbrev pub IsPut : List ℕ → List ℕ → List ℕ → ℕ → Bool → Type 0
IsPut text old new size true = IsWritten text old new size
IsPut text old new size false = IsShort text old new size

-- nothing is written: the buffer and the length are unchanged
abbrev pub IsUntouched : List ℕ → List ℕ → ℕ → ℕ → Type 0
IsUntouched old new before size = (new ≡ old) × (size ≡ before)
