-- The constraints that cover a request (Jakarta Servlet 6.0, sections 13.8 and 13.8.3).
use Rattle.std.specs.Prelude.{ℕ, Bool, true, not, ◌&&◌, List, [], filter, Option, None, Some}
use Rattle.std.specs.List.{list_any, flat_map}
use Rattle.std.specs.Str.{bytes_eq}
use Rattle.sv_constraints.specs.declared.constraint.Collection.{Collection}
use Rattle.sv_constraints.specs.declared.constraint.Constraint.{Constraint}
use Rattle.sv_constraints.specs.declared.constraint.Methods.{Methods}
use Rattle.sv_constraints.specs.declared.constraint.Methods.TheVariants.{All, Only, Except}

-- Whether the text is among the texts.
abbrev pub lists : List (List ℕ) → List ℕ → Bool
lists texts text = list_any (λ listed. bytes_eq listed text) texts

-- Whether the method is covered: every method, the listed ones, or all but the listed ones.
abbrev pub covers_method : Methods → List ℕ → Bool
covers_method All method = true
covers_method (Only methods) method = lists methods method
covers_method (Except methods) method = not (lists methods method)

-- Whether the collection lists the pattern and covers the method.
abbrev pub collection_covers : Collection → List ℕ → List ℕ → Bool
collection_covers collection pattern method = lists collection.patterns pattern && covers_method collection.methods method

-- Whether some collection of the constraint lists the pattern and covers the method.
abbrev pub covers : Constraint → List ℕ → List ℕ → Bool
covers constraint pattern method = list_any (λ collection. collection_covers collection pattern method) constraint.collections

-- The constraints that cover the method at the pattern; none without a pattern.
abbrev pub covering : List Constraint → Option (List ℕ) → List ℕ → List Constraint
covering constraints None method = []
covering constraints (Some pattern) method = filter (λ constraint. covers constraint pattern method) constraints

-- The patterns of a constraint, and of all constraints.
abbrev pub patterns_in : Constraint → List (List ℕ)
patterns_in constraint = flat_map (λ collection. collection.patterns) constraint.collections

abbrev pub all_patterns : List Constraint → List (List ℕ)
all_patterns constraints = flat_map patterns_in constraints
