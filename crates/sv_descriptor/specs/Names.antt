-- Names that must differ.
use Rattle.std.specs.Prelude.{◌≡◌, ◌≢◌, ℕ, ◌+◌, ◌<◌, Bool, true, false, not, ◌||◌, if◌then◌else◌, List, [], ◌∷◌, length, slice_get, Option, Some, None}
use Rattle.sv_descriptor.specs.Fault.{Located, check_at, item_key}
use Rattle.sv_descriptor.specs.Table.{is_among}
use Rattle.sv_descriptor.specs.declared.fault.FaultCode.TheVariants.{DuplicateName}

-- Some text occurs twice.
abbrev pub repeats : List (List ℕ) → Bool
repeats [] = false
repeats (text ∷ rest) = is_among rest text || repeats rest

-- The number of texts before the first that is also an earlier one or among `known`.
abbrev pub texts_before_repeat : List (List ℕ) → List (List ℕ) → ℕ
texts_before_repeat known [] = 0
texts_before_repeat known (text ∷ rest) = if is_among known text then 0 else texts_before_repeat (text ∷ known) rest + 1

-- The place of the first text that repeats an earlier one.
abbrev pub first_repeat : List (List ℕ) → ℕ
first_repeat texts = texts_before_repeat [] texts

-- The names at a key of the items of a list differ. The fault is at the first that repeats an earlier one.
abbrev pub distinct : List ℕ → List ℕ → List (List ℕ) → Located (Unit {0})
distinct list key names = check_at (not (repeats names)) DuplicateName key (item_key list (first_repeat names) key)

-- Both lists have the same texts.
abbrev pub HaveSame : List (List ℕ) → List (List ℕ) → Type 0
HaveSame names texts = (text : List ℕ) → is_among names text ≡ is_among texts text

-- None if a text occurs twice, and otherwise the texts as a set.
abbrev pub AreDistinct : Option (List (List ℕ)) → List (List ℕ) → Type 0
AreDistinct None texts = repeats texts ≡ true
AreDistinct (Some names) texts = (repeats texts ≡ false) × HaveSame names texts

-- No text occurs twice.
abbrev pub Differ : List (List ℕ) → Type 0
Differ texts = (i j : ℕ) → i < j → j < length texts → slice_get texts i ≢ slice_get texts j
