use Rattle.std.proofs.Common.{◌≡◌, ◌++◌, List, map, take}
use Rattle.std.specs.Prelude.{All, filter}
use Rattle.sv_constraints.specs.Covering.{all_patterns, lists}
use Rattle.sv_constraints.specs.declared.constraint.Constraint.{Constraint}
use Rattle.sv_policy.specs.Table.{IsTable}
use Rattle.sv_policy.specs.Groups.{IsGrouped}
use Rattle.sv_policy.proofs.grouped_tables.push_groups.Given as goal

abbrev pub invariant-loop-pattern : goal.invariant-loop-pattern
invariant-loop-pattern l = (constraints : List Constraint) → IsGrouped constraints l.groups →
    (map (λ table. table.value.pattern) l.making.tables.items ≡ map (λ table. table.value.pattern) l.initial.making.tables.items ++ filter (λ text. lists (all_patterns constraints) text) (map (λ pattern. pattern.now) (take l.pattern-index l.pattern-items)))
    × (All (λ table. IsTable l.rules constraints table.value) l.initial.making.tables.items → All (λ table. IsTable l.rules constraints table.value) l.making.tables.items)
