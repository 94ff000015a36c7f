use Rattle.std.proofs.Common.{◌≡◌, drop}
use Rattle.sv_wire.specs.EmptyLines.{drop_empty_lines}
use Rattle.sv_wire.proofs.empty_lines.empty_lines_len.Given as goal

abbrev pub invariant-loop-i : goal.invariant-loop-i
invariant-loop-i l = drop_empty_lines (drop l.i l.stream) ≡ drop_empty_lines l.stream
