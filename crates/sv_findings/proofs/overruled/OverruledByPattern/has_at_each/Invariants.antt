use Rattle.std.proofs.Common.{◌≡◌, List, true, map, take}
use Rattle.std.specs.List.{list_all}
use Rattle.sv_constraints.specs.declared.constraint.Constraint.{Constraint}
use Rattle.sv_constraints.specs.declared.constraint.Rules.{Rules}
use Rattle.sv_findings.specs.Overruled.{AreOverruled, is_overruled_at}
use Rattle.sv_findings.proofs.overruled.OverruledByPattern.has_at_each.Given as goal

abbrev pub invariant-loop-pattern : goal.invariant-loop-pattern
invariant-loop-pattern l = (rules : Rules) (constraints : List Constraint) → AreOverruled rules constraints l.self → list_all (is_overruled_at rules constraints l.number) (map (λ pattern. pattern.now) (take l.pattern-index l.patterns)) ≡ true
