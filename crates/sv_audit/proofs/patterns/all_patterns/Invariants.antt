use Rattle.std.proofs.Common.{◌≡◌, map, take}
use Rattle.sv_constraints.specs.Covering.{all_patterns}
use Rattle.sv_audit.proofs.patterns.all_patterns.Given as goal

abbrev pub invariant-loop-constraint : goal.invariant-loop-constraint
invariant-loop-constraint l = map (λ text. text.now) l.texts.items ≡ all_patterns (take l.constraint-index l.constraints)
