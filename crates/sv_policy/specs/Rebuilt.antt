-- The tables of constraints after one of them was edited (Jakarta Servlet 6.0, section 13.8).
use Rattle.std.specs.Prelude.{◌≡◌, ℕ, false, List, filter, length, map}
use Rattle.sv_constraints.specs.Covering.{lists}
use Rattle.sv_constraints.specs.declared.constraint.Collection.{Collection}
use Rattle.sv_constraints.specs.declared.constraint.Constraint.{Constraint}
use Rattle.sv_constraints.specs.declared.constraint.Rules.{Rules}
use Rattle.sv_policy.specs.Compiled.{AreCompiled}
use Rattle.sv_policy.specs.Patterns.{different, listed_in, lists_pattern}
use Rattle.sv_policy.specs.declared.rebuild.Rebuilt.{Rebuilt}

-- Both lists have the same constraints on every pattern except these.
abbrev pub AreSameElsewhere : List Constraint → List Constraint → List (List ℕ) → Type 0
AreSameElsewhere constraints others patterns = (text : List ℕ) → lists patterns text ≡ false →
    filter (λ constraint. lists_pattern constraint text) constraints ≡ filter (λ constraint. lists_pattern constraint text) others

-- The tables and their index are those of the constraints, and the count is that of the different patterns of the
-- edited collections.
pub record IsRebuilt (rules : Rules) (constraints : List Constraint) (edited : List Collection) (rebuilt : Rebuilt) : Type 0 where
  pub compiled : AreCompiled rules constraints (map (λ table. table.value) rebuilt.tables.items)
  pub indexed : rebuilt.index ≡ map (λ table. table.value.pattern) rebuilt.tables.items
  pub counted : rebuilt.count ≡ length (different (listed_in edited))
