-- Findings that are not looked for, since there are too many constraints, methods or patterns (Jakarta Servlet 6.0, section
-- 13.8).
use Rattle.std.specs.Prelude.{ℕ, Bool, false, true, not, ◌&&◌, ◌||◌, nat_lt, List, [], ◌∷◌, ◌++◌, length, filter, is_some, if◌then◌else◌}
use Rattle.std.specs.List.{list_any}
use Rattle.sv_constraints.specs.Covering.{all_patterns}
use Rattle.sv_constraints.specs.declared.constraint.Constraint.{Constraint}
use Rattle.sv_policy.specs.Covering.{named_methods}
use Rattle.sv_policy.specs.Patterns.{lists_pattern}
use Rattle.sv_policy.specs.Uncovered.{rising}
use Rattle.sv_overruled.specs.declared.overruled.TheConstants.{MAX_COMPARED_AT_PATTERN}
use Rattle.sv_findings.specs.Dead.{decides_nothing}
use Rattle.sv_findings.specs.Overruled.{compared}
use Rattle.sv_findings.specs.Unserved.{are_many}
use Rattle.sv_findings.specs.declared.surroundings.Surroundings.{Surroundings}
use Rattle.sv_findings.specs.declared.unsearched.Unsearched.{Unsearched}
use Rattle.sv_findings.specs.declared.unsearched.Unsearched.TheVariants.{Overruled, Unserved}

-- Whether so many constraints list a pattern, or name so many methods there, that they are not compared.
abbrev pub are_too_many : List Constraint → List ℕ → Bool
are_too_many members pattern = nat_lt MAX_COMPARED_AT_PATTERN (length members) || nat_lt MAX_COMPARED_AT_PATTERN (length (rising (named_methods members pattern)))

-- Whether the pattern may decide, but the constraints that list it are not compared.
abbrev pub is_uncompared : List Constraint → List (List ℕ) → List ℕ → Bool
is_uncompared constraints patterns pattern = not (decides_nothing patterns pattern) && are_too_many (filter (λ constraint. lists_pattern constraint pattern) constraints) pattern

-- Whether the constraints have such a pattern.
abbrev pub has_uncompared : List Constraint → Bool
has_uncompared constraints = list_any (is_uncompared constraints (all_patterns constraints)) (all_patterns constraints)

-- The findings that are not looked for.
abbrev pub unsearched : List Constraint → Surroundings → List Unsearched
unsearched constraints surroundings =
    (if has_uncompared (compared surroundings constraints) then Overruled ∷ [] else [])
    ++ (if is_some surroundings.files && are_many constraints then Unserved ∷ [] else [])

abbrev pub is_overruled_kind : Unsearched → Bool
is_overruled_kind Overruled = true
is_overruled_kind Unserved = false

abbrev pub is_unserved_kind : Unsearched → Bool
is_unserved_kind Overruled = false
is_unserved_kind Unserved = true
