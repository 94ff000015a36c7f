use Rattle.std.proofs.Common.{◌≡◌, ◌++◌, map, take}
use Rattle.std.specs.Prelude.{All, filter}
use Rattle.sv_constraints.specs.Covering.{all_patterns, lists}
use Rattle.sv_policy.specs.Table.{IsTable}
use Rattle.sv_policy.proofs.listed_tables.push_tables.Given as goal

abbrev pub invariant-loop-pattern : goal.invariant-loop-pattern
invariant-loop-pattern l =
    (map (λ table. table.value.pattern) l.making.tables.items ≡ map (λ table. table.value.pattern) l.initial.making.tables.items ++ filter (λ text. lists (all_patterns (l.front ++ l.back)) text) (map (λ pattern. pattern.now) (take l.pattern-index l.patterns)))
    × (All (λ table. IsTable l.rules (l.front ++ l.back) table.value) l.initial.making.tables.items → All (λ table. IsTable l.rules (l.front ++ l.back) table.value) l.making.tables.items)
