-- The output of a command, from the texts of the files that its store gives.
use Rattle.std.specs.Prelude.{◌≡◌, ℕ, List, Option, Result, Ok, Err}
use Rattle.std.specs.Io.KnownBytes.{Appends}
use Rattle.sv_text.specs.Gives.{Gives}
use Rattle.sv_program.specs.CommandFault.{command_fault, UnlessNoMemory}
use Rattle.sv_program.specs.Configuration.{Step}
use Rattle.sv_program.specs.declared.command_fault.CommandFault.{CommandFault}
use Rattle.sv_program.specs.declared.command_fault.CommandFault.TheVariants as fault

-- the text, or the fault, that follows from the readings between two states of a store
abbrev pub Printing : Type 0 → Type 1
Printing S = Step (List ℕ) → S → S → Type 0

-- the result is the text or its fault, unless memory ran out
abbrev pub FindsText : {S : Type 0} → Printing S → Step (List ℕ) → S → S → Type 0
FindsText Is result before after =
    UnlessNoMemory result ((text : Step (List ℕ)) × Is text before after × Gives command_fault result text)

-- a run that succeeds has written the text; a run whose output fails had a text to write; any other run ends with the
-- fault of the files
abbrev pub EndsBy : Step (List ℕ) → Result (Unit {0}) CommandFault → Option (List ℕ) → Option (List ℕ) → Type 0
EndsBy text (Ok done) old new = (written : List ℕ) × (text ≡ Ok written) × Appends old new written
EndsBy text (Err fault.Output) old new = (written : List ℕ) × (text ≡ Ok written)
EndsBy text (Err fault.Input) old new = ⊥
EndsBy text (Err found) old new = text ≡ Err found

-- the command's run, unless memory ran out
abbrev pub Prints : {S : Type 0} → Printing S → Result (Unit {0}) CommandFault → S → S → Option (List ℕ) → Option (List ℕ) → Type 0
Prints Is result before after old new =
    UnlessNoMemory result ((text : Step (List ℕ)) × Is text before after × EndsBy text result old new)
