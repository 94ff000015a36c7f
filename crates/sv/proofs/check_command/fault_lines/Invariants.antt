use Rattle.std.proofs.Common.{string_bytes, take}
use Rattle.sv.specs.CheckCommand.{AreLines}
use Rattle.sv.proofs.check_command.fault_lines.Given as goal

-- the faults so far are written
abbrev pub invariant-loop-fault : goal.invariant-loop-fault
invariant-loop-fault l = AreLines (take l.fault-index l.faults) (string_bytes l.text)
