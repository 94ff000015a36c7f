use Rattle.std.proofs.Common.{◌≡◌, ℕ, List, [], if◌then◌else◌, map, take}
use Rattle.sv_constraints.specs.Covering.{lists}
use Rattle.sv_constraints.specs.declared.constraint.Constraint.{Constraint}
use Rattle.sv_policy.specs.Groups.{IsGrouped}
use Rattle.sv_findings.specs.Overruled.{numbers_at, numbers_in}
use Rattle.sv_findings.proofs.overruled.OverruledByPattern.of.Given as goal

-- The patterns up to here are entered.
abbrev pub invariant-loop-pattern : goal.invariant-loop-pattern
invariant-loop-pattern l = (constraints : List Constraint) → IsGrouped constraints l.groups → (text : List ℕ) →
    numbers_in l.numbers text ≡ (if lists (map (λ pattern. pattern.now) (take l.pattern-index l.pattern-items)) text then numbers_at l.rules constraints text else [])
