-- The methods that constraints name at a pattern, and the constraints that cover the others (Jakarta Servlet 6.0,
-- section 13.8.1).
use Rattle.std.specs.Prelude.{ℕ, Bool, true, false, not, ◌&&◌, List, [], filter, Option, None, Some}
use Rattle.std.specs.List.{list_any, flat_map}
use Rattle.sv_constraints.specs.Covering.{covers, lists}
use Rattle.sv_constraints.specs.declared.constraint.Collection.{Collection}
use Rattle.sv_constraints.specs.declared.constraint.Constraint.{Constraint}
use Rattle.sv_constraints.specs.declared.constraint.Methods.{Methods}
use Rattle.sv_constraints.specs.declared.constraint.Methods.TheVariants.{All, Only, Except}

-- The methods that are named, whether they are covered or excluded.
abbrev pub method_names : Methods → List (List ℕ)
method_names All = []
method_names (Only methods) = methods
method_names (Except methods) = methods

-- The methods that collections name at the pattern, and those that constraints name.
abbrev pub listed_methods : List Collection → List ℕ → List (List ℕ)
listed_methods collections pattern = flat_map (λ collection. method_names collection.methods) (filter (λ collection. lists collection.patterns pattern) collections)

abbrev pub named_methods : List Constraint → List ℕ → List (List ℕ)
named_methods constraints pattern = flat_map (λ constraint. listed_methods constraint.collections pattern) constraints

-- Whether the methods that are not named are left uncovered.
abbrev pub leaves_others_open : Methods → Bool
leaves_others_open All = false
leaves_others_open (Only methods) = true
leaves_others_open (Except methods) = false

abbrev pub collection_covers_unnamed : Collection → List ℕ → Bool
collection_covers_unnamed collection pattern = lists collection.patterns pattern && not (leaves_others_open collection.methods)

abbrev pub covers_unnamed : Constraint → List ℕ → Bool
covers_unnamed constraint pattern = list_any (λ collection. collection_covers_unnamed collection pattern) constraint.collections

-- Whether the constraint covers the method at the pattern or, without a method, the methods that are not named there.
abbrev pub covers_at : Constraint → List ℕ → Option (List ℕ) → Bool
covers_at constraint pattern None = covers_unnamed constraint pattern
covers_at constraint pattern (Some method) = covers constraint pattern method
