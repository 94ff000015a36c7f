-- Patterns that no request reaches (Jakarta Servlet 6.0, sections 10.5 and 12.1).
use Rattle.std.specs.Prelude.{ℕ, Bool, not, List, filter, map}
use Rattle.std.specs.List.{flat_map}
use Rattle.sv_constraints.specs.Covering.{patterns_in}
use Rattle.sv_constraints.specs.declared.constraint.Constraint.{Constraint}
use Rattle.sv_policy.specs.Patterns.{different}
use Rattle.sv_findings.specs.Reach.{is_reached}
use Rattle.sv_findings.specs.declared.finding.Finding.{Finding}
use Rattle.sv_findings.specs.declared.finding.Finding.TheVariants as finding

abbrev pub is_unreached : List (List ℕ) → List ℕ → List ℕ → Bool
is_unreached contexts context pattern = not (is_reached contexts context pattern)

abbrev pub unreached_in : List (List ℕ) → List ℕ → Constraint → List Finding
unreached_in contexts context constraint = map (finding.Unreached constraint.number) (different (filter (is_unreached contexts context) (patterns_in constraint)))

-- The patterns of constraints that no request reaches, given the paths of all contexts and that of this one.
abbrev pub unreached : List (List ℕ) → List ℕ → List Constraint → List Finding
unreached contexts context constraints = flat_map (unreached_in contexts context) constraints
