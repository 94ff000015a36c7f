use Rattle.std.proofs.Common.{◌≡◌, take}
use Rattle.std.specs.Option.{option_copied}
use Rattle.sv_mapping.specs.BestMatch.{best, best_pattern}
use Rattle.sv_mapping.proofs.best_match.best.Given as goal

abbrev pub invariant-loop-place : goal.invariant-loop-place
invariant-loop-place l = (option_copied l.held ≡ best_pattern (take l.place l.patterns) l.path) × (l.best ≡ best (take l.place l.patterns) l.path)
