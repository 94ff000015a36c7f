use Rattle.std.proofs.Common.{◌≡◌, ◌++◌, take}
use Rattle.sv_findings.specs.Dead.{dead_among}
use Rattle.sv_findings.proofs.dead.push_dead.Given as goal

abbrev pub invariant-loop-constraint : goal.invariant-loop-constraint
invariant-loop-constraint l = l.findings.items ≡ l.initial.findings.items ++ dead_among l.listed (take l.constraint-index l.constraints)
