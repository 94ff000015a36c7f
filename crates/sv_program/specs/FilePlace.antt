-- The place of a value in a configuration file, as it is printed.
use Rattle.std.specs.Prelude.{◌≡◌, ℕ, List, ◌++◌, codes, take}
use Rattle.std.specs.Fmt.{decimal}
use Rattle.sv_descriptor.specs.declared.fault.ValueStep.{ValueStep}
use Rattle.sv_program.specs.Place.{line_behind, column_behind}
use Rattle.sv_program.specs.ValuePlace.{IsSpot}
use Rattle.sv_program.specs.declared.value_place.Spot.{Spot}
use Rattle.sv_program.specs.declared.value_place.Spot.TheVariants.{Nowhere, Line, Byte}

-- a value of a file, by the file's name and text and the steps to the value
pub record ValueInFile : Type 0 where
  pub file : List ℕ
  pub text : List ℕ
  pub steps : List ValueStep

-- the line and the column of a place, after colons
abbrev pub byte_text : List ℕ → List ℕ
byte_text before = codes ":" ++ decimal (line_behind before) ++ codes ":" ++ decimal (column_behind before)

-- the line and the column of a place in the text, as far as they are known
abbrev pub spot_text : List ℕ → Spot → List ℕ
spot_text text Nowhere = codes ""
spot_text text (Line line) = codes ":" ++ decimal line
spot_text text (Byte at) = byte_text (take at text)

-- the name of the file, with the place of the value after these steps
abbrev pub IsPlaceText : List ℕ → List ℕ → List ValueStep → List ℕ → Type 0
IsPlaceText file text steps shown = (spot : Spot) × IsSpot text steps spot × (shown ≡ file ++ spot_text text spot)
