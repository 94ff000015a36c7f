-- The output of a command.
use Rattle.std.specs.Prelude.{◌≡◌, ℕ, List, Option, Result, Ok, Err}
use Rattle.std.specs.Io.KnownBytes.{Appends}
use Rattle.sv_program.specs.declared.command_fault.CommandFault.{CommandFault}
use Rattle.sv_program.specs.declared.command_fault.CommandFault.TheVariants.{Output}

-- the text is added, or the output fails
abbrev pub Shows : List ℕ → Result (Unit {0}) CommandFault → Option (List ℕ) → Option (List ℕ) → Type 0
Shows text (Ok done) old new = Appends old new text
Shows text (Err fault) old new = fault ≡ Output
