-- Faults that end a replay early.
use Rattle.std.specs.Prelude.{ℕ, Bool, false, true, List, ◌++◌, codes}
use Rattle.std.specs.Fmt.{decimal}
use Rattle.sv_script.specs.declared.replay_fault.ReplayFault.{ReplayFault}
use Rattle.sv_script.specs.declared.replay_fault.ReplayFault.TheVariants.{Script, Output, NoMemory}
use Rattle.sv_run.specs.declared.step_fault.StepFault.{StepFault}
use Rattle.sv_run.specs.declared.step_fault.StepFault.TheVariants as refusals

-- whether the script is at fault for a refusal
abbrev pub is_of_script : StepFault → Bool
is_of_script refusals.Stopped = false
is_of_script refusals.BadConnection = true
is_of_script refusals.TooManyConnections = true
is_of_script refusals.NoMemory = false

-- the fault of a refused event, by the number of its line
abbrev pub fault_of : ℕ → StepFault → ReplayFault
fault_of line refusals.Stopped = NoMemory
fault_of line refusals.BadConnection = Script line
fault_of line refusals.TooManyConnections = Script line
fault_of line refusals.NoMemory = NoMemory

abbrev pub fault_text : ReplayFault → List ℕ
fault_text (Script line) = codes "script " ++ decimal line
fault_text Output = codes "output"
fault_text NoMemory = codes "no memory"
