use Rattle.std.proofs.Common.{◌≡◌, take}
use Rattle.sv_audit_command.specs.RowPaths.{row_patterns}
use Rattle.sv_audit_command.proofs.row_paths.row_patterns.Given as goal

abbrev pub invariant-loop-row : goal.invariant-loop-row
invariant-loop-row l = l.patterns.items ≡ row_patterns (take l.row-index l.rows)
