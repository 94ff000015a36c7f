-- Constraints at one pattern (Jakarta Servlet 6.0, section 13.8.3).
use Rattle.std.specs.Prelude.{ℕ, List, filter, map}
use Rattle.std.specs.Str.{bytes_eq}
use Rattle.sv_constraints.specs.Covering.{lists}
use Rattle.sv_constraints.specs.declared.constraint.Collection.{Collection}
use Rattle.sv_constraints.specs.declared.constraint.Constraint.{Constraint}

-- The collection without its other patterns.
abbrev pub focused_collection : List ℕ → Collection → Collection
focused_collection pattern collection = record collection { patterns = filter (λ one. bytes_eq one pattern) collection.patterns }

-- The collections that list the pattern, without their other patterns.
abbrev pub focused_collections : List ℕ → List Collection → List Collection
focused_collections pattern collections = map (focused_collection pattern) (filter (λ collection. lists collection.patterns pattern) collections)

-- The constraint without all that does not concern the pattern.
abbrev pub focused : List ℕ → Constraint → Constraint
focused pattern constraint = record constraint { collections = focused_collections pattern constraint.collections }
