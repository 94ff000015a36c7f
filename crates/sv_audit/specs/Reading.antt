-- What an access table says of a request (Jakarta Servlet 6.0, sections 12.1 and 13.8).
use Rattle.std.specs.Prelude.{◌≡◌, ℕ, Bool, true, false, List, [], ◌∷◌, filter, map, Option, None, Some, All, IsTrue, if◌then◌else◌}
use Rattle.std.specs.List.{flat_map, list_any}
use Rattle.std.specs.Option.{option_to_list}
use Rattle.std.specs.Str.{bytes_eq}
use Rattle.sv_mapping.specs.BestMatch.{best_pattern}
use Rattle.sv_mapping.specs.Pattern.{is_at_or_below}
use Rattle.sv_mapping.specs.Segments.{is_rooted}
use Rattle.sv_mapping.specs.Within.{path_within}
use Rattle.sv_realm.specs.declared.caller.Caller.{Caller}
use Rattle.sv_constraints.specs.Covering.{covers_method, lists}
use Rattle.sv_constraints.specs.Decision.{why_of}
use Rattle.sv_constraints.specs.Verdict.{verdict}
use Rattle.sv_constraints.specs.declared.cause.Cause.{Cause}
use Rattle.sv_constraints.specs.declared.cause.Cause.TheVariants as cause
use Rattle.sv_constraints.specs.declared.constraint.Constraint.{Constraint}
use Rattle.sv_constraints.specs.declared.constraint.Rules.{Rules}
use Rattle.sv_constraints.specs.declared.owned_decision.OwnedDecision.{OwnedDecision}
use Rattle.sv_constraints.specs.declared.owned_decision.OwnedDecision.TheVariants.{Open, Login, Denied}
use Rattle.sv_audit.specs.Rows.{table_for}
use Rattle.sv_audit.specs.declared.access.Access.{Access}
use Rattle.sv_audit.specs.declared.access.Access.TheVariants as access
use Rattle.sv_audit.specs.declared.access.Cell.{Cell}
use Rattle.sv_audit.specs.declared.rows.Row.{Row}
use Rattle.sv_audit.specs.declared.rows.Table.{Table}

-- Whether a request passes, needs a login or is denied.
pub data Kind : Type 0 where
  Passes : Kind
  NeedsLogin : Kind
  IsDenied : Kind

-- The kind and the cause of a decision.
abbrev pub kind_and_cause : OwnedDecision → Kind × Cause
kind_and_cause (Open why) = (Passes, why.cause)
kind_and_cause (Login why) = (NeedsLogin, why.cause)
kind_and_cause (Denied why) = (IsDenied, why.cause)

-- What an access means for a caller with these roles, or without a caller.
abbrev pub said_to : Option Caller → Access → Kind × Cause
said_to caller access.Unconstrained = (Passes, cause.NoPattern)
said_to caller access.Uncovered = (Passes, cause.Uncovered)
said_to caller access.UncoveredDenied = (IsDenied, cause.Uncovered)
said_to caller access.Precluded = (IsDenied, cause.Precluded)
said_to caller access.NeedsTls = (IsDenied, cause.Transport)
said_to caller access.Everyone = (Passes, cause.Unauthenticated)
said_to None access.AnyLogin = (NeedsLogin, cause.NeedsCaller)
said_to (Some caller) access.AnyLogin = (Passes, cause.Role)
said_to None (access.Roles names) = (NeedsLogin, cause.NeedsCaller)
said_to (Some caller) (access.Roles names) = if list_any (lists caller.roles) names then (Passes, cause.Role) else (IsDenied, cause.NoRole)

-- The patterns of the rows.
abbrev pub row_patterns : List Row → List (List ℕ)
row_patterns rows = flat_map (λ row. option_to_list row.pattern) rows

abbrev pub is_same : Option (List ℕ) → Option (List ℕ) → Bool
is_same None None = true
is_same (Some pattern) (Some other) = bytes_eq pattern other
is_same pattern other = false

-- The rows of a path: those of its best match among the patterns of the table, or those without a pattern.
abbrev pub rows_for : List Row → List ℕ → List Row
rows_for rows path = filter (λ row. is_same row.pattern (best_pattern (row_patterns rows) path)) rows

-- The cells of a method in a row: those of the groups that contain it.
abbrev pub cells_in : List ℕ → Row → List Cell
cells_in method row = map (λ group. group.cell) (filter (λ group. covers_method group.methods method) row.groups)

-- The cells of a method and a path in a table.
abbrev pub cells_for : Table → List ℕ → List ℕ → List Cell
cells_for table method path = flat_map (cells_in method) (rows_for table.rows path)

-- For every path that is empty or begins with a slash, every method and every caller, a table has exactly one cell, and
-- it says what the verdict is.
abbrev pub TablesAreRight : Type 0
TablesAreRight = (whose : Access → Option Caller) (constraints : List Constraint) (rules : Rules) (method path : List ℕ) (caller : Option Caller) → IsTrue (is_rooted path) →
    map (λ cell. said_to caller cell.access) (cells_for (table_for whose constraints rules) method path) ≡ kind_and_cause (verdict constraints rules method path caller) ∷ []

-- The number in that cell is that of the verdict on the caller whose table it is: a given one, or one who has just what the
-- access asks for.
abbrev pub NumbersAreRight : Type 0
NumbersAreRight = (whose : Access → Option Caller) (constraints : List Constraint) (rules : Rules) (method path : List ℕ) → IsTrue (is_rooted path) →
    All (λ cell. cell.constraint ≡ (why_of (verdict constraints rules method path (whose cell.access))).number) (cells_for (table_for whose constraints rules) method path)

-- Each path that a context serves is such a path within it (section 3.5).
abbrev pub ServedPathsAreRooted : Type 0
ServedPathsAreRooted = (context path : List ℕ) → IsTrue (is_at_or_below context path) → IsTrue (is_rooted (path_within context path))
