use Rattle.std.proofs.Common.{◌≡◌, flat_map, take}
use Rattle.std.specs.String.{string_bytes}
use Rattle.sv_program.specs.Uncovered.{gap_line}
use Rattle.sv_program.proofs.uncovered_report.gap_lines.Given as goal

abbrev pub invariant-loop-gap : goal.invariant-loop-gap
invariant-loop-gap l = string_bytes l.lines ≡ flat_map (gap_line l.path) (take l.gap-index l.gaps)
