use Rattle.std.proofs.Common.{◌≡◌, take}
use Rattle.sv_constraints.specs.Covering.{all_patterns}
use Rattle.sv_audit_command.proofs.context_patterns.constrained_patterns.Given as goal

abbrev pub invariant-loop-constraint : goal.invariant-loop-constraint
invariant-loop-constraint l = l.patterns.items ≡ all_patterns (take l.constraint-index l.constraints)
