use Rattle.std.proofs.Common.{take}
use Rattle.sv_policy.specs.Groups.{IsGrouped}
use Rattle.sv_policy.proofs.groups.grouped.Given as goal

abbrev pub invariant-loop-constraint : goal.invariant-loop-constraint
invariant-loop-constraint l = IsGrouped (take l.constraint-index l.constraints) l.groups
