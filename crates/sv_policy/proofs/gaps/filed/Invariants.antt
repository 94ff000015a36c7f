use Rattle.std.proofs.Common.{map, take}
use Rattle.sv_policy.specs.Filed.{IsFiled}
use Rattle.sv_policy.proofs.gaps.filed.Given as goal

abbrev pub invariant-loop-table : goal.invariant-loop-table
invariant-loop-table l = IsFiled (map (λ table. table.value) l.tables) (map (λ table. table.value) (take l.table-index l.tables)) l.filed.entries
