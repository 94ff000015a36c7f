-- The place at which a value of a file begins: the last one at which both truth values, written there with brackets that
-- close what is then open, are the value.
use Rattle.std.specs.Prelude.{◌≡◌, ℕ, ◌-◌, ◌<◌, ◌≤◌, ◌/◌, ◌+◌, Bool, true, false, not, ◌&&◌, ◌||◌, ◌==◌, List, [], ◌∷◌, ◌++◌, length, take, drop, slice_index_or, Option, Some, None, if◌then◌else◌}
use Rattle.std.specs.Option.{option_and_then}
use Rattle.std.specs.Str.{byte}
use Rattle.toml.specs.Data.{Data, boolean}
use Rattle.sv_descriptor.specs.declared.fault.ValueStep.{ValueStep}
use Rattle.sv_descriptor.specs.declared.fault.ValueStep.TheVariants.{Key, Item}
use Rattle.sv_program.specs.FileLine.{IsRegion, table_of}
use Rattle.sv_program.specs.Offending.{value_in}
use Rattle.sv_program.specs.Shown.{truth_text}
use Rattle.sv_program.specs.declared.file_line.Region.{Region}
use Rattle.sv_program.specs.declared.limits.TheConstants.{MAX_SAMPLED_BYTES}
use Rattle.sv_program.specs.declared.value_place.Spot.{Spot}
use Rattle.sv_program.specs.declared.value_place.Spot.TheVariants.{Nowhere, Line, Byte}

-- the bracket that closes the table or the list that has the value of a step
abbrev pub closer : ValueStep → ℕ
closer (Key key) = byte "}"
closer (Item number) = byte "]"

-- the brackets that close the tables and lists of these steps, innermost first
abbrev pub closers_of : List ValueStep → List ℕ
closers_of [] = []
closers_of (step ∷ rest) = closers_of rest ++ closer step ∷ []

-- those around a value; nothing closes the table of the file
abbrev pub closers : List ValueStep → List ℕ
closers steps = closers_of (drop 1 steps)

-- the value is this truth value
abbrev pub is_sample : Bool → Option Data → Bool
is_sample true (Some (boolean held)) = held
is_sample false (Some (boolean held)) = not held
is_sample sample other = false

-- the truth value and the brackets, written after these bytes
abbrev pub sampled : List ℕ → Bool → List ℕ → List ℕ
sampled before sample brackets = before ++ truth_text sample ++ brackets

-- the value after these steps is then the truth value
abbrev pub is_taken : List ValueStep → List ℕ → List ℕ → Bool → Bool
is_taken steps before brackets sample = is_sample sample (option_and_then (value_in steps) (table_of (sampled before sample brackets)))

-- so are both truth values
abbrev pub are_both_taken : List ValueStep → List ℕ → List ℕ → Bool
are_both_taken steps before brackets = is_taken steps before brackets true && is_taken steps before brackets false

-- both are taken after these bytes, with this number of the innermost brackets
abbrev pub AreTakenWith : List ValueStep → List ℕ → ℕ → Type 0
AreTakenWith steps before count = are_both_taken steps before (take count (closers steps)) ≡ true

-- with some of them
abbrev pub AreTaken : List ValueStep → List ℕ → Type 0
AreTaken steps before = (count : ℕ) × (count ≤ length (closers steps)) × AreTakenWith steps before count

-- a value follows white space, an equals sign, an opening bracket or a comma (TOML 1.0)
abbrev pub precedes_value : ℕ → Bool
precedes_value b = b == byte " " || (b == byte "\t" || (b == byte "\n" || (b == byte "=" || (b == byte "[" || b == byte ","))))

-- the value after these steps can begin at this place of the text
abbrev pub CanBegin : List ℕ → List ValueStep → ℕ → Type 0
CanBegin text steps at = (precedes_value (slice_index_or text (at - 1) 0) ≡ true) × AreTaken steps (take at text)

-- the value can begin nowhere after the first of these places, and up to the last
abbrev pub BeginsNowhere : List ℕ → List ValueStep → ℕ → ℕ → Type 0
BeginsNowhere text steps after last = (at : ℕ) → after < at → at ≤ last → CanBegin text steps at → ⊥

-- the last place between these at which the value can begin
abbrev pub IsLastBeginning : List ℕ → List ValueStep → ℕ → ℕ → Option ℕ → Type 0
IsLastBeginning text steps after last None = BeginsNowhere text steps after last
IsLastBeginning text steps after last (Some at) = (after < at) × (at ≤ last) × CanBegin text steps at × BeginsNowhere text steps at last

-- the places of these lines are few enough to be tried
abbrev pub IsTried : List ℕ → Region → Type 0
IsTried text region = region.end - region.start ≤ MAX_SAMPLED_BYTES / (length text + 1)

-- the place within these lines at which the value begins
abbrev pub IsByteWithin : List ℕ → List ValueStep → Region → Option ℕ → Type 0
IsByteWithin text steps region None = IsTried text region → BeginsNowhere text steps region.start region.end
IsByteWithin text steps region (Some at) = IsLastBeginning text steps region.start region.end (Some at)

-- the place of the header of a table that begins these lines (TOML 1.0), or else their first line
abbrev pub header_spot : List ℕ → Region → Spot
header_spot text region = if slice_index_or text region.start 0 == byte "[" then Byte region.start else Line region.line

-- the place of a value on these lines, if it begins at this place within them
abbrev pub spot_on : List ℕ → Region → Option ℕ → Spot
spot_on text region None = header_spot text region
spot_on text region (Some at) = Byte at

-- the place of a value that begins on these lines
abbrev pub IsSpotOn : List ℕ → List ValueStep → Region → Spot → Type 0
IsSpotOn text steps region spot = (within : Option ℕ) × IsByteWithin text steps region within × (spot ≡ spot_on text region within)

-- the place of the value after these steps, as far as it is known
abbrev pub IsSpot : List ℕ → List ValueStep → Spot → Type 0
IsSpot text steps Nowhere = IsRegion text steps None
IsSpot text steps (Line line) = (region : Region) × IsRegion text steps (Some region) × IsSpotOn text steps region (Line line)
IsSpot text steps (Byte at) = (region : Region) × IsRegion text steps (Some region) × IsSpotOn text steps region (Byte at)
