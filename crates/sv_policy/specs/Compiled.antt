-- The state of a compiled policy (Jakarta Servlet 6.0, section 13.8).
use Rattle.std.specs.Prelude.{◌≡◌, ℕ, List, map, fold, max, All}
use Rattle.sv_constraints.specs.Covering.{all_patterns, lists}
use Rattle.sv_constraints.specs.declared.constraint.Constraint.{Constraint}
use Rattle.sv_constraints.specs.declared.constraint.Rules.{Rules}
use Rattle.sv_policy.specs.Table.{IsTable}
use Rattle.sv_policy.specs.declared.table.Table.{Table}

-- The current constraints, their rules, the greatest number assigned so far, and the count of patterns affected by
-- edits.
pub record Standing : Type 0 where
  pub constraints : List Constraint
  pub rules : Rules
  pub greatest : ℕ
  pub rebuilt : ℕ

-- The greatest number of constraints, or 0 if there are none.
abbrev pub greatest_number : List Constraint → ℕ
greatest_number constraints = fold (λ greatest constraint. max greatest constraint.number) 0 constraints

-- The state of a policy that was just compiled.
abbrev pub compiled : List Constraint → Rules → Standing
compiled constraints rules = record { constraints = constraints; rules = rules; greatest = greatest_number constraints; rebuilt = 0 }

-- There is a table for each pattern of the constraints and for no other, and each table is correct.
pub record AreCompiled (rules : Rules) (constraints : List Constraint) (tables : List Table) : Type 0 where
  pub whole : All (IsTable rules constraints) tables
  pub texts : (text : List ℕ) → lists (map (λ table. table.pattern) tables) text ≡ lists (all_patterns constraints) text
