-- The rows of an access table (Jakarta Servlet 6.0, sections 12.1 and 13.8).
use Rattle.std.specs.Prelude.{ℕ, Bool, not, ◌||◌, List, [], ◌∷◌, ◌++◌, filter, map, codes, Option, None, Some, if◌then◌else◌}
use Rattle.sv_mapping.specs.Pattern.{is_extension_pattern}
use Rattle.sv_realm.specs.declared.caller.Caller.{Caller}
use Rattle.sv_constraints.specs.Covering.{all_patterns, covering, lists}
use Rattle.sv_constraints.specs.declared.constraint.Constraint.{Constraint}
use Rattle.sv_constraints.specs.declared.constraint.Methods.TheVariants.{Except, Only}
use Rattle.sv_constraints.specs.declared.constraint.Rules.{Rules}
use Rattle.sv_policy.specs.Covering.{covers_unnamed, named_methods}
use Rattle.sv_policy.specs.Uncovered.{rising}
use Rattle.sv_audit.specs.Access.{cell_for, fitting_caller}
use Rattle.sv_audit.specs.Same.{same_cell}
use Rattle.sv_audit.specs.declared.access.Access.{Access}
use Rattle.sv_audit.specs.declared.access.Access.TheVariants.{Unconstrained}
use Rattle.sv_audit.specs.declared.access.Cell.{Cell}
use Rattle.sv_audit.specs.declared.rows.Group.{Group}
use Rattle.sv_audit.specs.declared.rows.NamedCell.{NamedCell}
use Rattle.sv_audit.specs.declared.rows.Row.{Row}
use Rattle.sv_audit.specs.declared.rows.Table.{Table}

-- A method with its cell at a pattern.
abbrev pub named_cell : (Access → Option Caller) → List Constraint → Rules → List ℕ → List ℕ → NamedCell
named_cell whose constraints rules pattern method = record { name = method; cell = cell_for whose rules (Some pattern) (covering constraints (Some pattern) method) }

-- The cell of the methods that no constraint names at the pattern.
abbrev pub others_cell : (Access → Option Caller) → List Constraint → Rules → List ℕ → Cell
others_cell whose constraints rules pattern = cell_for whose rules (Some pattern) (filter (λ constraint. covers_unnamed constraint pattern) constraints)

-- The named methods whose cell is not that of the others, in ascending byte order.
unfoldable pub exceptions : (Access → Option Caller) → List Constraint → Rules → List ℕ → List NamedCell
exceptions whose constraints rules pattern =
    filter (λ named. not (same_cell named.cell (others_cell whose constraints rules pattern))) (map (named_cell whose constraints rules pattern) (rising (named_methods constraints pattern)))

-- The different cells, in the order of their first methods.
abbrev pub different_cells : List NamedCell → List Cell
different_cells [] = []
different_cells (named ∷ others) = named.cell ∷ filter (λ cell. not (same_cell named.cell cell)) (different_cells others)

-- The methods with a cell.
abbrev pub group_with : List NamedCell → Cell → Group
group_with named its_cell = record { methods = Only (map (λ one. one.name) (filter (λ one. same_cell one.cell its_cell) named)); cell = its_cell }

-- All methods that are not named.
abbrev pub others_group : List NamedCell → Cell → Group
others_group named its_cell = record { methods = Except (map (λ one. one.name) named); cell = its_cell }

-- A group for each different cell of the named methods, and one for all other methods.
unfoldable pub groups_of : List NamedCell → Cell → List Group
groups_of named others = map (group_with named) (different_cells named) ++ others_group named others ∷ []

-- The row of a pattern, with the numbers for this caller.
abbrev pub row_for : (Access → Option Caller) → List Constraint → Rules → List ℕ → Row
row_for whose constraints rules its_pattern = record { pattern = Some its_pattern; groups = groups_of (exceptions whose constraints rules its_pattern) (others_cell whose constraints rules its_pattern) }

abbrev pub row_at : List Constraint → Rules → List ℕ → Row
row_at constraints rules its_pattern = row_for fitting_caller constraints rules its_pattern

-- The row of the paths that no pattern matches.
abbrev pub other_paths : Row
other_paths = record { pattern = None; groups = record { methods = Except []; cell = record { access = Unconstrained; constraint = None } } ∷ [] }

-- The patterns in the order of the rows: extension patterns last.
abbrev pub in_row_order : List (List ℕ) → List (List ℕ)
in_row_order patterns = filter (λ pattern. not (is_extension_pattern pattern)) (rising patterns) ++ filter is_extension_pattern (rising patterns)

-- Whether each path matches one of the patterns.
abbrev pub match_every_path : List (List ℕ) → Bool
match_every_path patterns = lists patterns (codes "/") || lists patterns (codes "/*")

-- The table of constraints, with the numbers for this caller.
abbrev pub table_for : (Access → Option Caller) → List Constraint → Rules → Table
table_for whose constraints rules = record {
  rows = map (row_for whose constraints rules) (in_row_order (all_patterns constraints)) ++ (if match_every_path (all_patterns constraints) then [] else other_paths ∷ []);
}

-- The table of constraints, with the numbers for callers who have just what each access asks for.
abbrev pub table_of : List Constraint → Rules → Table
table_of constraints rules = table_for fitting_caller constraints rules
