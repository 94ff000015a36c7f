use Rattle.std.proofs.Common.{◌≡◌, map, take}
use Rattle.serde_json.specs.View.{view}
use Rattle.sv_difference.specs.DifferenceJson.{difference_value}
use Rattle.sv_difference.proofs.values.difference_values.Given as goal

abbrev pub invariant-loop-difference : goal.invariant-loop-difference
invariant-loop-difference l = map view l.values.items ≡ map (difference_value l.context) (take l.difference-index l.differences)
