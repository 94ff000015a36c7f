-- The texts and numbers of the faults that refuse an event.
use Rattle.std.specs.Prelude.{ℕ, List, codes}
use Rattle.sv_run.specs.declared.step_fault.StepFault.{StepFault}
use Rattle.sv_run.specs.declared.step_fault.StepFault.TheVariants.{Stopped, BadConnection, TooManyConnections, NoMemory}

abbrev pub fault_name : StepFault → List ℕ
fault_name Stopped = codes "Stopped"
fault_name BadConnection = codes "BadConnection"
fault_name TooManyConnections = codes "TooManyConnections"
fault_name NoMemory = codes "no memory"

abbrev pub fault_number : StepFault → ℕ
fault_number Stopped = 1
fault_number BadConnection = 2
fault_number TooManyConnections = 3
fault_number NoMemory = 4
