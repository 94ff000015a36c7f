-- The methods that constraints leave uncovered, by pattern (Jakarta Servlet 6.0, section 13.8.4).
use Rattle.std.specs.Prelude.{◌≡◌, ℕ, Bool, true, false, ◌&&◌, List, filter, map, All}
use Rattle.std.specs.List.{list_any}
use Rattle.std.specs.Str.{bytes_eq}
use Rattle.sv_constraints.specs.Covering.{all_patterns, covers_method, lists}
use Rattle.sv_constraints.specs.declared.constraint.Constraint.{Constraint}
use Rattle.sv_constraints.specs.declared.constraint.Methods.{Methods}
use Rattle.sv_constraints.specs.declared.constraint.Methods.TheVariants as methods
use Rattle.sv_policy.specs.Covering.{method_names}
use Rattle.sv_policy.specs.Uncovered.{IsRising, has_methods, is_uncovered, rising, uncovered_methods}
use Rattle.sv_policy.specs.declared.gaps.Gap.{Gap}

-- The gap at a pattern.
abbrev pub gap_at : List Constraint → List ℕ → Gap
gap_at constraints pattern = record { pattern = pattern; methods = uncovered_methods constraints pattern }

-- A gap for each pattern of the constraints that has uncovered methods.
abbrev pub gaps : List Constraint → List Gap
gaps constraints = filter (λ gap. has_methods gap.methods) (map (gap_at constraints) (rising (all_patterns constraints)))

-- Whether one of the gaps has the pattern and contains the method.
abbrev pub holds : List Gap → List ℕ → List ℕ → Bool
holds found pattern method = list_any (λ gap. bytes_eq gap.pattern pattern && covers_method gap.methods method) found

-- A gap contains a method exactly if a constraint lists the pattern and none covers the method there.
abbrev pub GapsAreExact : Type 0
GapsAreExact = (constraints : List Constraint) (pattern method : List ℕ) →
    holds (gaps constraints) pattern method ≡ (lists (all_patterns constraints) pattern && is_uncovered constraints pattern method)

abbrev pub is_all : Methods → Bool
is_all methods.All = true
is_all (methods.Only listed) = false
is_all (methods.Except listed) = false

-- The patterns of the gaps are strictly ascending, and so are the names in each gap. No gap is
-- written as all methods: a gap without exceptions has an empty list of them.
abbrev pub GapsRise : Type 0
GapsRise = (constraints : List Constraint) →
    IsRising (map (λ gap. gap.pattern) (gaps constraints))
    × All (λ gap. IsRising (method_names gap.methods) × (is_all gap.methods ≡ false)) (gaps constraints)
