use Rattle.std.proofs.Common.{◌≡◌, codes}
use Rattle.std.specs.List.{repeat}
use Rattle.sv_audit.proofs.representatives.long_name.Given as goal

abbrev pub invariant-loop : goal.invariant-loop
invariant-loop l = l.name ≡ repeat l.counter (codes "x")
