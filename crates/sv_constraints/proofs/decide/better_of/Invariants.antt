use Rattle.std.proofs.Common.{◌≡◌, ◌++◌, List, ℕ, take}
use Rattle.std.specs.List.{flat_map}
use Rattle.std.specs.Option.{option_copied}
use Rattle.sv_mapping.specs.BestMatch.{best_pattern}
use Rattle.sv_constraints.proofs.decide.better_of.Given as goal

abbrev pub invariant-loop-collection : goal.invariant-loop-collection
invariant-loop-collection l =
    (before : List (List ℕ)) → best_pattern before l.path ≡ option_copied l.fn.found →
    option_copied l.best ≡ best_pattern (before ++ flat_map (λ collection. collection.patterns) (take l.collection-index l.collection-items)) l.path
