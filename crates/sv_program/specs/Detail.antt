-- The second line of a fault: the file, the place if it is known, the problem and the offending value.
use Rattle.std.specs.Prelude.{◌≡◌, ◌≤◌, ℕ, ◌+◌, List, [], ◌∷◌, ◌++◌, codes, length, take, Option, Some, None, MatchOption}
use Rattle.std.specs.Fmt.{decimal}
use Rattle.std.specs.Net.Text.{socket_text}
use Rattle.std.specs.Option.{option_and_then}
use Rattle.toml.specs.Parse.{parse_document}
use Rattle.sv_journal.specs.declared.calls.Place.{Place}
use Rattle.sv_journal.specs.declared.calls.Place.TheVariants.{Filter, Servlet}
use Rattle.sv_descriptor.specs.declared.fault.FaultCode.{FaultCode}
use Rattle.sv_descriptor.specs.declared.fault.FaultCode.TheVariants.{NotToml}
use Rattle.sv_descriptor.specs.declared.fault.LocatedFault.{LocatedFault}
use Rattle.sv_program.specs.FilePlace.{spot_text}
use Rattle.sv_program.specs.Offending.{offending}
use Rattle.sv_program.specs.Place.{line_behind, column_behind}
use Rattle.sv_program.specs.Sentence.{sentence}
use Rattle.sv_program.specs.Unavailable.{reason_text}
use Rattle.sv_program.specs.ValuePlace.{IsSpot}
use Rattle.sv_program.specs.declared.detail.Detail.{Detail}
use Rattle.sv_program.specs.declared.detail.Detail.TheVariants as detail
use Rattle.sv_program.specs.declared.value_place.Spot.{Spot}

-- the offending value, if it is shown
abbrev pub value_text : Option (List ℕ) → List ℕ
value_text None = codes ""
value_text (Some value) = codes ": " ++ value

-- the line with the problem, after a place
abbrev pub problem_line : List ℕ → List ℕ → LocatedFault → Option (List ℕ) → List ℕ
problem_line name place found value = codes "  " ++ name ++ place ++ codes ": " ++ sentence found ++ value_text value

-- the line with the place after these bytes of the text
abbrev pub line_with_place : List ℕ → List ℕ → List ℕ → List ℕ
line_with_place name before message =
    codes "  " ++ name ++ codes ":" ++ decimal (line_behind before) ++ codes ":" ++ decimal (column_behind before) ++ codes ": " ++ message

-- the line has some place in the text, and some message
abbrev pub IsPlaced : List ℕ → List ℕ → List ℕ → Type 0
IsPlaced name text line = (at : ℕ) × (message : List ℕ) × (at ≤ length text) × (line ≡ line_with_place name (take at text) message)

-- the line has a place if the text is not valid TOML
abbrev pub IsTextLine : List ℕ → List ℕ → LocatedFault → List ℕ → Type 0
IsTextLine name text found line = MatchOption (parse_document text) (IsPlaced name text line) (λ _. line ≡ problem_line name (codes "") found None)

-- the line says where in the file the offending value begins
abbrev pub IsProblemLine : List ℕ → List ℕ → LocatedFault → List ℕ → Type 0
IsProblemLine name text found line =
    (spot : Spot) × IsSpot text found.steps spot
    × (line ≡ problem_line name (spot_text text spot) found (option_and_then (offending found) (parse_document text)))

abbrev pub IsLineOf : FaultCode → List ℕ → List ℕ → LocatedFault → List ℕ → Type 0
IsLineOf NotToml name text found line = IsTextLine name text found line
IsLineOf other name text found line = IsProblemLine name text found line

-- the line for a fault of a file of this name and text
abbrev pub IsLine : List ℕ → List ℕ → LocatedFault → List ℕ → Type 0
IsLine name text found line = IsLineOf found.fault.code name text found line

-- a fault with its place, and the name and the text of the file that has it
pub record FaultInFile : Type 0 where
  pub file : List ℕ
  pub text : List ℕ
  pub found : LocatedFault

-- the line is the one for this fault
abbrev pub IsDetail : FaultInFile → List ℕ → Type 0
IsDetail faulty line = IsLine faulty.file faulty.text faulty.found line

-- a component, by its place from 1 among those of its kind in the descriptor
abbrev pub place_kind : Place → List ℕ
place_kind (Servlet place) = codes "servlet"
place_kind (Filter place) = codes "filter"

abbrev pub place_number : Place → ℕ
place_number (Servlet place) = place + 1
place_number (Filter place) = place + 1

abbrev pub place_text : Place → List ℕ
place_text place = place_kind place ++ codes " " ++ decimal (place_number place)

-- a name, or that it is empty
abbrev pub named : List ℕ → List ℕ
named [] = codes "an empty name"
named (first ∷ rest) = first ∷ rest

-- the reason after the path of a file, if there is one
abbrev pub with_path : Option (List ℕ) → List ℕ → List ℕ
with_path None reason = reason
with_path (Some path) reason = path ++ codes ": " ++ reason

-- two spaces and the reason
abbrev pub detail_text : Detail → List ℕ
detail_text (detail.Line line) = line.now
detail_text (detail.Named name why) = codes "  " ++ named name.now ++ codes ": " ++ reason_text why
detail_text (detail.Entry name path why) = codes "  " ++ name.now ++ path.now ++ codes ": " ++ reason_text why
detail_text (detail.StaticFile path reason) = codes "  " ++ (path.now ++ (codes ": " ++ reason.now))
detail_text (detail.Address address why) = codes "  " ++ socket_text address ++ codes ": " ++ reason_text why
detail_text (detail.Component place) = codes "  " ++ place_text place ++ codes " of its descriptor: init failed"
detail_text (detail.Classes place classes) = codes "  " ++ (place.now ++ (codes ": the program has " ++ classes.now))
detail_text (detail.User shown) = codes "  the context has no user " ++ shown.now
detail_text (detail.Role shown) = codes "  no context knows the role " ++ shown.now
detail_text (detail.Method shown) = codes "  the method is not a token: " ++ shown.now
detail_text (detail.Sentence sentence) = codes "  " ++ sentence.now
