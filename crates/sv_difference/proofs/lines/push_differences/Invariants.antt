use Rattle.std.proofs.Common.{◌≡◌, ◌++◌, take}
use Rattle.std.specs.Prelude.{string_bytes}
use Rattle.std.specs.List.{flat_map}
use Rattle.sv_difference.specs.DifferenceText as spec
use Rattle.sv_difference.proofs.lines.push_differences.Given as goal

abbrev pub invariant-loop-difference : goal.invariant-loop-difference
invariant-loop-difference l = string_bytes l.text ≡ string_bytes l.initial.text ++ flat_map (spec.difference_line l.context) (take l.difference-index l.differences)
