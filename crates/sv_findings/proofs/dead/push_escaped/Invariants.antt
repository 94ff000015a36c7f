use Rattle.std.proofs.Common.{◌≡◌, ◌++◌, take}
use Rattle.sv_findings.specs.Dead.{escaped}
use Rattle.sv_findings.proofs.dead.push_escaped.Given as goal

abbrev pub invariant-loop-constraint : goal.invariant-loop-constraint
invariant-loop-constraint l = l.findings.items ≡ l.initial.findings.items ++ escaped (take l.constraint-index l.constraints)
