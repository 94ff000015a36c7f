use Rattle.std.proofs.Common.{◌≡◌, take}
use Rattle.std.specs.Option.{option_copied}
use Rattle.sv_constraints.specs.Covering.{all_patterns}
use Rattle.sv_mapping.specs.BestMatch.{best_pattern}
use Rattle.sv_constraints.proofs.decide.best_of.Given as goal

abbrev pub invariant-loop-constraint : goal.invariant-loop-constraint
invariant-loop-constraint l =
    option_copied l.best ≡ best_pattern (all_patterns (take l.constraint-index l.constraints)) l.path
