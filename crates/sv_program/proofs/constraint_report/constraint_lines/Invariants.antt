use Rattle.std.proofs.Common.{◌≡◌, flat_map, take}
use Rattle.std.specs.String.{string_bytes}
use Rattle.sv_program.specs.Constraints as spec
use Rattle.sv_program.proofs.constraint_report.constraint_lines.Given as goal

abbrev pub invariant-loop-constraint : goal.invariant-loop-constraint
invariant-loop-constraint l = string_bytes l.lines ≡ flat_map (spec.constraint_lines l.path) (take l.constraint-index l.constraints)
