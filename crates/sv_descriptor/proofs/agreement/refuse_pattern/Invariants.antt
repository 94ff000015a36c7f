use Rattle.std.proofs.Common.{◌≡◌, drop}
use Rattle.sv_descriptor.specs.Agreement.{pattern_steps}
use Rattle.sv_descriptor.proofs.agreement.refuse_pattern.Given as goal

abbrev pub invariant-loop-place : goal.invariant-loop-place
invariant-loop-place l = pattern_steps l.place (drop l.place l.mappings) l.number ≡ pattern_steps 0 l.mappings l.fn.number
