use Rattle.std.proofs.Common.{◌≡◌, List, false, map, take}
use Rattle.std.specs.List.{list_any}
use Rattle.sv_constraints.specs.declared.constraint.Constraint.{Constraint}
use Rattle.sv_policy.specs.Groups.{IsGrouped}
use Rattle.sv_findings.specs.Unsearched.{is_uncompared}
use Rattle.sv_findings.proofs.unsearched.has_uncompared_among.Given as goal

abbrev pub invariant-loop-pattern : goal.invariant-loop-pattern
invariant-loop-pattern l = (constraints : List Constraint) → IsGrouped constraints l.groups → list_any (is_uncompared constraints l.listed) (map (λ pattern. pattern.now) (take l.pattern-index l.pattern-items)) ≡ false
