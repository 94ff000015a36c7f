use Rattle.std.proofs.Common.{◌≡◌, map, take}
use Rattle.sv_policy.proofs.tables.index_of.Given as goal

abbrev pub invariant-loop-table : goal.invariant-loop-table
invariant-loop-table l = l.patterns.items ≡ map (λ table. table.value.pattern) (take l.table-index l.tables)
