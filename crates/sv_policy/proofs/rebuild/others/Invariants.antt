use Rattle.std.proofs.Common.{◌≡◌, filter, map, take}
use Rattle.sv_policy.proofs.Elsewhere.{is_other}
use Rattle.sv_policy.proofs.rebuild.others.Given as goal

abbrev pub invariant-loop-table : goal.invariant-loop-table
invariant-loop-table l = map (λ table. table.value) l.kept.items ≡ filter (is_other (map (λ pattern. pattern.now) l.patterns)) (map (λ table. table.value) (take l.table-index l.tables))
