use Rattle.std.proofs.Common.{◌≡◌, map, take}
use Rattle.std.specs.Prelude.{filter}
use Rattle.sv_explanation.specs.Listed.{has_pattern, listed_constraint}
use Rattle.sv_explanation.proofs.listing.listed_with.Given as goal

abbrev pub invariant-loop-constraint : goal.invariant-loop-constraint
invariant-loop-constraint l =
    l.listed.items ≡ map (listed_constraint l.context l.pattern l.method) (filter (has_pattern l.pattern) (take l.constraint-index l.context.constraints))
