use Rattle.std.proofs.Common.{◌≡◌, map, take, filter, List}
use Rattle.sv_constraints.specs.declared.constraint.Constraint.{Constraint}
use Rattle.sv_constraints.specs.declared.constraint.Rules.{Rules}
use Rattle.sv_policy.specs.Uncovered.{has_methods}
use Rattle.sv_policy.specs.Compiled.{AreCompiled}
use Rattle.sv_policy.specs.Gaps.{gap_at}
use Rattle.sv_policy.proofs.gaps.gaps_of.Given as goal

abbrev pub invariant-loop-table : goal.invariant-loop-table
invariant-loop-table l =
    (rules : Rules) (constraints : List Constraint) → AreCompiled rules constraints (map (λ table. table.value) l.fn.tables) →
    l.found.items ≡ filter (λ gap. has_methods gap.methods) (map (gap_at constraints) (map (λ table. table.now.pattern) (take l.table-index l.table-items)))
