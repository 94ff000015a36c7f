use Rattle.std.proofs.Common.{◌≡◌, map, take}
use Rattle.std.specs.Prelude.{filter}
use Rattle.sv_findings.specs.MetRows.{is_row_met}
use Rattle.sv_findings.proofs.met_rows.met_rows.Given as goal

abbrev pub invariant-loop-row : goal.invariant-loop-row
invariant-loop-row l = map (λ row. row.now) l.met.items ≡ filter (is_row_met l.reaches.0 l.reaches.1 l.listed) (take l.row-index l.rows)
