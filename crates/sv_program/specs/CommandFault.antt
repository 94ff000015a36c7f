-- The lines and exit statuses of faults.
use Rattle.std.specs.Prelude.{ℕ, List, [], ◌++◌, codes, if◌then◌else◌, Option, Some, None, MatchOption, Result, Ok, Err}
use Rattle.std.specs.Fmt.{decimal}
use Rattle.std.specs.Str.{bytes_eq}
use Rattle.sv_journal.specs.StartCode.{new_code_number}
use Rattle.sv_descriptor.specs.Fault.{number}
use Rattle.sv_descriptor.specs.declared.fault.DescriptorFault.{DescriptorFault}
use Rattle.sv_files.specs.Fault.{fault_number as files_number}
use Rattle.sv_uri.specs.ContextPath.{shown_context}
use Rattle.sv_program.specs.Shown.{printed_key}
use Rattle.sv_program.specs.declared.command_fault.CommandFault.{CommandFault}
use Rattle.sv_program.specs.declared.command_fault.CommandFault.TheVariants.{Input, Output, File, Folder, Server, Descriptor, Users, Class, Files, Start, Socket, Script, User, Role, Method, Refused, NoMemory, Findings, Faults}

-- the key of the fault in a configuration file, or `-` if the fault concerns the whole text or the key is empty
abbrev pub key_text : List ℕ → List ℕ
key_text key = if bytes_eq key [] then codes "-" else printed_key key

-- `CODE KEY`
abbrev pub fault_text : DescriptorFault → List ℕ
fault_text fault = decimal (number fault.code) ++ codes " " ++ key_text fault.key

-- the line on standard error
abbrev pub fault_line : CommandFault → List ℕ
fault_line Input = codes "sv: file stdin"
fault_line Output = codes "sv: file stdout"
fault_line (File name why) = codes "sv: file " ++ name
fault_line (Folder name entry) = codes "sv: file " ++ name
fault_line (Server faulty) = codes "sv: server " ++ fault_text faulty.found.fault
fault_line (Descriptor context faulty) = codes "sv: descriptor " ++ shown_context context ++ codes " " ++ fault_text faulty.found.fault
fault_line (Users context faulty) = codes "sv: users " ++ shown_context context ++ codes " " ++ fault_text faulty.found.fault
fault_line (Class name place known) = codes "sv: class " ++ name
fault_line (Files context found path) = codes "sv: files " ++ shown_context context ++ codes " " ++ decimal (files_number found)
fault_line (Start code context) = codes "sv: start " ++ decimal (new_code_number code) ++ codes " " ++ shown_context context
fault_line (Socket found) = codes "sv: socket"
fault_line (Script line) = codes "sv: script " ++ decimal line
fault_line (User shown) = codes "sv: user"
fault_line (Role shown) = codes "sv: role"
fault_line (Method shown) = codes "sv: method"
fault_line (Refused refusal) = codes "sv: refused"
fault_line NoMemory = codes "sv: no memory"
fault_line (Findings count) = codes "sv: findings " ++ decimal count
fault_line (Faults count) = codes "sv: faults " ++ decimal count

-- the exit status: 1 for the configuration and the system, 2 for arguments and scripts, 3 if memory ran out, 4 for findings
abbrev pub status_of : CommandFault → ℕ
status_of Input = 1
status_of Output = 1
status_of (File name why) = 1
status_of (Folder name entry) = 1
status_of (Server faulty) = 1
status_of (Descriptor context faulty) = 1
status_of (Users context faulty) = 1
status_of (Class name place known) = 1
status_of (Files context found path) = 1
status_of (Start code context) = 1
status_of (Socket found) = 1
status_of (Script line) = 2
status_of (User shown) = 2
status_of (Role shown) = 2
status_of (Method shown) = 2
status_of (Refused refusal) = 1
status_of NoMemory = 3
status_of (Findings count) = 4
status_of (Faults count) = 1

-- the fault, unless memory ran out
abbrev pub command_fault : CommandFault → Option CommandFault
command_fault NoMemory = None
command_fault other = Some other

-- the fact holds, unless memory ran out
abbrev pub UnlessNoMemory : {A : Type 0} → Result A CommandFault → Type 0 → Type 0
UnlessNoMemory (Ok a) fact = fact
UnlessNoMemory (Err fault) fact = MatchOption (command_fault fault) (Unit {0}) (λ _. fact)
