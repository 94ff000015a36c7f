-- Constraints grouped by the patterns that they list (Jakarta Servlet 6.0, section 13.8).
use Rattle.std.specs.Prelude.{◌≡◌, ℕ, Bool, List, [], filter, is_some, map, Vec}
use Rattle.std.specs.Borrow.{Bor}
use Rattle.std.proofs.Common.{Global}
use Rattle.std.specs.HashMap.{HashMap, get_by}
use Rattle.std.specs.Option.{option_map_or}
use Rattle.std.specs.Str.{bytes_eq}
use Rattle.sv_constraints.specs.Covering.{lists}
use Rattle.sv_constraints.specs.declared.constraint.Constraint.{Constraint}
use Rattle.sv_policy.specs.Patterns.{lists_pattern}
use Rattle.sv_policy.specs.declared.groups.Groups.{Groups}

-- The group of a pattern, empty if it has none.
abbrev pub items_in : {S : Type 0} → HashMap (Bor (List ℕ)) (Vec (Bor Constraint) Global) S → List ℕ → List (Bor Constraint)
items_in groups text = option_map_or (λ group. group.items) (get_by (λ key. bytes_eq text key.now) groups) []

-- The constraints in the group of a pattern.
abbrev pub members_in : {S : Type 0} → HashMap (Bor (List ℕ)) (Vec (Bor Constraint) Global) S → List ℕ → List Constraint
members_in groups text = map (λ member. member.now) (items_in groups text)

-- Whether the pattern has a group.
abbrev pub has_group : {S : Type 0} → HashMap (Bor (List ℕ)) (Vec (Bor Constraint) Global) S → List ℕ → Bool
has_group groups text = is_some (get_by (λ key. bytes_eq text key.now) groups)

-- The patterns are those that have a group.
abbrev pub HasPatterns : Groups → Type 0
HasPatterns groups = (text : List ℕ) → has_group groups.members text ≡ lists (map (λ pattern. pattern.now) groups.patterns.items) text

-- Each group has the constraints that list its pattern, and the patterns are those that have a group.
pub record IsGrouped (constraints : List Constraint) (groups : Groups) : Type 0 where
  pub members : (text : List ℕ) → members_in groups.members text ≡ filter (λ constraint. lists_pattern constraint text) constraints
  pub patterns : HasPatterns groups
