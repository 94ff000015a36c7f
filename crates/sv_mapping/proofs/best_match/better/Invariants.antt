use Rattle.std.proofs.Common.{◌≡◌, ℕ, List, ◌++◌, take}
use Rattle.std.specs.Option.{option_copied}
use Rattle.sv_mapping.specs.BestMatch.{best_pattern, best_with}
use Rattle.sv_mapping.proofs.best_match.better.Given as goal

abbrev pub invariant-loop-pattern : goal.invariant-loop-pattern
invariant-loop-pattern l =
    (option_copied l.held ≡ best_with (option_copied l.fn.found) (take l.pattern-index l.patterns) l.path)
    × ((before : List (List ℕ)) → best_pattern before l.path ≡ option_copied l.fn.found → option_copied l.held ≡ best_pattern (before ++ take l.pattern-index l.patterns) l.path)
