use Rattle.std.proofs.Common.{◌≡◌, map, take}
use Rattle.std.specs.Prelude.{filter}
use Rattle.sv_findings.specs.Readings.{is_late}
use Rattle.sv_findings.proofs.readings.late_rows.Given as goal

abbrev pub invariant-loop-row : goal.invariant-loop-row
invariant-loop-row l = map (λ row. row.now) l.late.items ≡ filter is_late (take l.row-index l.rows)
