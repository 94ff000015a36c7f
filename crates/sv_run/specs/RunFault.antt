-- Faults that end a run early.
use Rattle.std.specs.Prelude.{ℕ, List, ◌++◌, codes}
use Rattle.std.specs.Fmt.{decimal}
use Rattle.sv_uri.specs.ContextPath.{shown_context}
use Rattle.sv_journal.specs.StartCode.{new_code_number}
use Rattle.sv_run.specs.declared.run_fault.RunFault.{RunFault}
use Rattle.sv_run.specs.declared.run_fault.RunFault.TheVariants.{Script, Start, Output, NoMemory, Connection}
use Rattle.sv_run.specs.declared.step_fault.StepFault.{StepFault}
use Rattle.sv_run.specs.declared.step_fault.StepFault.TheVariants as step

abbrev pub number : RunFault → ℕ
number (Script line) = 1
number (Start code context) = 2
number Output = 3
number NoMemory = 4
number Connection = 5

-- The exit status: 1 for a failed start, output or connection, 2 for the script, 3 if memory ran out.
abbrev pub status : RunFault → ℕ
status (Script line) = 2
status (Start code context) = 1
status Output = 1
status NoMemory = 3
status Connection = 1

abbrev pub fault_text : RunFault → List ℕ
fault_text (Script line) = codes "script " ++ decimal line
fault_text (Start code context) = codes "start " ++ decimal (new_code_number code) ++ codes " " ++ shown_context context
fault_text Output = codes "file stdout"
fault_text NoMemory = codes "no memory"
fault_text Connection = codes "socket"

-- The fault of a run over connections in which an event was refused.
abbrev pub of_step : StepFault → RunFault
of_step step.NoMemory = NoMemory
of_step step.Stopped = Connection
of_step step.BadConnection = Connection
of_step step.TooManyConnections = Connection
