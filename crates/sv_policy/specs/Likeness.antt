-- Patterns that are listed by the same collections of the same constraints (Jakarta Servlet 6.0, section 13.8).
use Rattle.std.specs.Prelude.{ℕ, Bool, not, ◌&&◌, ◌==◌, List, length}
use Rattle.std.specs.List.{list_any}
use Rattle.sv_constraints.specs.Covering.{lists}
use Rattle.sv_constraints.specs.declared.constraint.Constraint.{Constraint}
use Rattle.sv_policy.specs.Uncovered.{differ}

-- Whether a collection of the constraint lists exactly one of the two patterns.
abbrev pub tells_apart : Constraint → List ℕ → List ℕ → Bool
tells_apart constraint pattern other = list_any (λ collection. differ (lists collection.patterns pattern) (lists collection.patterns other)) constraint.collections

-- Whether equally many constraints list the two patterns, and no collection of those on the first lists exactly one of
-- the two.
abbrev pub are_alike : List Constraint → List Constraint → List ℕ → List ℕ → Bool
are_alike members others pattern other = length members == length others && not (list_any (λ member. tells_apart member pattern other) members)
