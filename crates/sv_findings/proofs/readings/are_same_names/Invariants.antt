use Rattle.std.proofs.Common.{◌≡◌, ◌++◌, take}
use Rattle.sv_findings.proofs.readings.are_same_names.Given as goal

abbrev pub invariant-loop-name : goal.invariant-loop-name
invariant-loop-name l = take l.name-index l.names ++ l.left ≡ l.others
