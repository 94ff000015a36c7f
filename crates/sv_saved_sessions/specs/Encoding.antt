-- Numbers, byte strings, options and lists as bytes.
use Rattle.std.specs.Prelude.{ℕ, List, [], ◌∷◌, ◌++◌, length, Option, None, Some}
use Rattle.std.specs.Int.{to_be_bytes, w64}
use Rattle.std.specs.List.{flat_map}

-- A number is 8 bytes, the highest first.
abbrev pub number_bytes : ℕ → List ℕ
number_bytes value = to_be_bytes w64 value

-- A text or a byte string is its length and its bytes.
abbrev pub text_bytes : List ℕ → List ℕ
text_bytes text = number_bytes (length text) ++ text

-- An option is a byte 0, or a byte 1 and the value.
abbrev pub optional_bytes : {A : Type 0} → (A → List ℕ) → Option A → List ℕ
optional_bytes bytes_of None = 0 ∷ []
optional_bytes bytes_of (Some value) = 1 ∷ bytes_of value

-- A list is its length and its items.
abbrev pub list_bytes : {A : Type 0} → (A → List ℕ) → List A → List ℕ
list_bytes bytes_of items = number_bytes (length items) ++ flat_map bytes_of items
