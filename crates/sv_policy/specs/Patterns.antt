-- The patterns of constraints (Jakarta Servlet 6.0, section 13.8).
use Rattle.std.specs.Prelude.{◌≡◌, ℕ, Bool, List, [], ◌∷◌, ◌++◌, fold, if◌then◌else◌}
use Rattle.std.specs.List.{flat_map, list_any}
use Rattle.sv_constraints.specs.Covering.{lists}
use Rattle.sv_constraints.specs.declared.constraint.Collection.{Collection}
use Rattle.sv_constraints.specs.declared.constraint.Constraint.{Constraint}
use Rattle.sv_mapping.specs.BestMatch.{best_pattern}

-- Whether the constraint lists the pattern.
abbrev pub lists_pattern : Constraint → List ℕ → Bool
lists_pattern constraint text = list_any (λ collection. lists collection.patterns text) constraint.collections

-- The patterns that collections list.
abbrev pub listed_in : List Collection → List (List ℕ)
listed_in collections = flat_map (λ collection. collection.patterns) collections

-- The texts and one more, if it is not among them yet.
abbrev pub kept_once : List (List ℕ) → List ℕ → List (List ℕ)
kept_once kept text = if lists kept text then kept else kept ++ text ∷ []

-- Each of the texts once.
abbrev pub different : List (List ℕ) → List (List ℕ)
different texts = fold kept_once [] texts

-- Patterns with the same texts have the same best match, whatever their order and number.
abbrev pub BestIsOfTexts : Type 0
BestIsOfTexts = (patterns others : List (List ℕ)) (path : List ℕ) → ((text : List ℕ) → lists patterns text ≡ lists others text) → best_pattern patterns path ≡ best_pattern others path
