use Rattle.std.proofs.Common.{◌≡◌, ◌++◌, map, take}
use Rattle.std.specs.List.{flat_map}
use Rattle.sv_findings.specs.Readings.{read_at}
use Rattle.sv_findings.proofs.readings.push_read_before.Given as goal

abbrev pub invariant-loop-row : goal.invariant-loop-row
invariant-loop-row l = (l.findings.items ≡ l.initial.findings.items ++ flat_map (λ row. read_at l.initial.late row.pattern row.groups) (map (λ row. row.now) (take l.row-index l.rows))) × (l.late ≡ l.initial.late)
