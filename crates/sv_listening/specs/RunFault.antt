-- The fault of a command for the fault of its run.
use Rattle.sv_program.specs.declared.command_fault.CommandFault.{CommandFault}
use Rattle.sv_program.specs.declared.command_fault.CommandFault.TheVariants as fault
use Rattle.sv_program.specs.declared.socket_fault.SocketFault.TheVariants.{Accept}
use Rattle.sv_run.specs.declared.run_fault.RunFault.{RunFault}
use Rattle.sv_run.specs.declared.run_fault.RunFault.TheVariants.{Script, Start, Output, NoMemory, Connection}

abbrev pub fault_of_run : RunFault → CommandFault
fault_of_run (Script line) = fault.Script line
fault_of_run (Start code context) = fault.Start code context
fault_of_run Output = fault.Output
fault_of_run NoMemory = fault.NoMemory
fault_of_run Connection = fault.Socket Accept
