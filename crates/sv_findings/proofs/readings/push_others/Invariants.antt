use Rattle.std.proofs.Common.{◌≡◌, ◌++◌, map, take}
use Rattle.std.specs.Prelude.{filter}
use Rattle.sv_findings.specs.Readings.{is_other_row}
use Rattle.sv_findings.proofs.readings.push_others.Given as goal

abbrev pub invariant-loop-row : goal.invariant-loop-row
invariant-loop-row l = map (λ row. row.now) l.ordered.items ≡ map (λ row. row.now) l.initial.ordered.items ++ filter is_other_row (map (λ row. row.now) (take l.row-index l.rows))
