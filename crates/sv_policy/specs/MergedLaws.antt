-- Theorems about uncovered methods and sorted texts (Jakarta Servlet 6.0, section 13.8.4).
use Rattle.std.specs.Prelude.{◌≡◌, ℕ, List}
use Rattle.sv_constraints.specs.Covering.{covers_method, lists}
use Rattle.sv_constraints.specs.declared.constraint.Constraint.{Constraint}
use Rattle.sv_policy.specs.Covering.{method_names}
use Rattle.sv_policy.specs.Uncovered.{IsRising, is_uncovered, rising, uncovered_methods}

-- Sorted texts are strictly ascending.
abbrev pub RisingRises : Type 0
RisingRises = (texts : List (List ℕ)) → IsRising (rising texts)

-- Sorting keeps the same texts.
abbrev pub RisingHasTheTexts : Type 0
RisingHasTheTexts = (texts : List (List ℕ)) (text : List ℕ) → lists (rising texts) text ≡ lists texts text

-- No other strictly ascending list has the same texts.
abbrev pub RisingIsAlone : Type 0
RisingIsAlone = (texts others : List (List ℕ)) → IsRising texts → IsRising others →
    ((text : List ℕ) → lists texts text ≡ lists others text) → texts ≡ others

-- The uncovered methods are exactly those that no constraint covers.
abbrev pub UncoveredIsExact : Type 0
UncoveredIsExact = (constraints : List Constraint) (pattern method : List ℕ) →
    covers_method (uncovered_methods constraints pattern) method ≡ is_uncovered constraints pattern method

-- The listed names are strictly ascending.
abbrev pub UncoveredRises : Type 0
UncoveredRises = (constraints : List Constraint) (pattern : List ℕ) → IsRising (method_names (uncovered_methods constraints pattern))
