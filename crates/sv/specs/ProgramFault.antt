-- The lines and the exit status of a program that ends early.
use Rattle.std.specs.Prelude.{◌≡◌, ℕ, List, codes, Option, Some}
use Rattle.std.specs.declared.io.ErrorKind.{ErrorKind}
use Rattle.std.specs.declared.io.ErrorKind.TheVariants.{OutOfMemory}
use Rattle.sv_arguments.specs.Command.{NameNothing}
use Rattle.sv_arguments.specs.Usage.{IsUsageLine}
use Rattle.sv.specs.declared.program_fault.ProgramFault.{ProgramFault}
use Rattle.sv.specs.declared.program_fault.ProgramFault.TheVariants.{Usage, Command}
use Rattle.sv_program.specs.CommandFault.{fault_line, status_of}
use Rattle.sv_program.specs.FaultDetail.{IsFaultDetail}
use Rattle.sv_program.specs.declared.command_fault.CommandFault.TheVariants.{NoMemory}
use Rattle.sv_program.specs.declared.detail.Detail.{Detail}
use Rattle.sv_program.specs.declared.detail.Detail.TheVariants.{Line}

abbrev pub program_fault_line : ProgramFault → List ℕ
program_fault_line (Usage line) = codes "sv: usage"
program_fault_line (Command fault) = fault_line fault

abbrev pub program_status : ProgramFault → ℕ
program_status (Usage line) = 2
program_status (Command fault) = status_of fault

-- the second line is there, and it is this one
abbrev pub IsLine : List ℕ → Option Detail → Type 0
IsLine text (Some (Line line)) = line.now ≡ text
IsLine text other = ⊥

-- the second line of the fault
abbrev pub IsProgramDetail : ProgramFault → Option Detail → Type 0
IsProgramDetail (Usage line) given = IsLine line given
IsProgramDetail (Command fault) given = IsFaultDetail fault given

-- wrong usage with such a second line, unless memory ran out for it
abbrev pub IsUsageFault : (List ℕ → Type 0) → ProgramFault → Type 0
IsUsageFault says (Usage line) = says line
IsUsageFault says (Command fault) = fault ≡ NoMemory

-- the fault of arguments that name no command
abbrev pub IsUsage : List (List ℕ) → ProgramFault → Type 0
IsUsage arguments fault = NameNothing arguments → IsUsageFault (IsUsageLine arguments) fault

-- the fault of arguments that could not be read, by the kind of the error
abbrev pub IsUnread : ErrorKind → ProgramFault → Type 0
IsUnread OutOfMemory fault = fault ≡ Command NoMemory
IsUnread kind fault = IsUsageFault (λ line. line ≡ codes "  an argument is not UTF-8") fault
