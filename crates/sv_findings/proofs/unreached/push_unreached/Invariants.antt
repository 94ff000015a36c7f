use Rattle.std.proofs.Common.{◌≡◌, ◌++◌, take}
use Rattle.sv_findings.specs.Unreached.{unreached}
use Rattle.sv_findings.proofs.unreached.push_unreached.Given as goal

abbrev pub invariant-loop-constraint : goal.invariant-loop-constraint
invariant-loop-constraint l = l.findings.items ≡ l.initial.findings.items ++ unreached l.reaches.0 l.reaches.1 (take l.constraint-index l.constraints)
