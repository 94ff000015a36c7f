use Rattle.std.proofs.Common.{◌≡◌, ◌++◌, take}
use Rattle.sv_findings.specs.Dead.{dead_patterns}
use Rattle.sv_findings.proofs.dead.push_dead_patterns.Given as goal

abbrev pub invariant-loop-constraint : goal.invariant-loop-constraint
invariant-loop-constraint l = l.findings.items ≡ l.initial.findings.items ++ dead_patterns l.listed (take l.constraint-index l.constraints)
