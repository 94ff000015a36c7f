use Rattle.std.proofs.Common.{◌≡◌, ◌++◌, map, take}
use Rattle.std.specs.List.{flat_map}
use Rattle.sv_findings.specs.Opened.{opened_at}
use Rattle.sv_findings.proofs.opened.push_opened.Given as goal

abbrev pub invariant-loop-row : goal.invariant-loop-row
invariant-loop-row l = l.findings.items ≡ l.initial.findings.items ++ flat_map (λ row. opened_at l.constraints row.pattern) (map (λ row. row.now) (take l.row-index l.rows))
