use Rattle.std.proofs.Common.{◌≡◌, ◌++◌, take, drop}
use Rattle.sv_descriptor.specs.Constraint.{numbered}
use Rattle.sv_descriptor.proofs.constraint.number_each.Given as goal

abbrev pub invariant-loop-place : goal.invariant-loop-place
invariant-loop-place l = l.constraints ≡ numbered 1 (take l.place l.initial.constraints) ++ drop l.place l.initial.constraints
