use Rattle.std.proofs.Common.{◌≡◌, ◌++◌, map, take}
use Rattle.std.specs.List.{flat_map}
use Rattle.sv_findings.specs.Heads.{head_at}
use Rattle.sv_findings.proofs.heads.push_heads.Given as goal

abbrev pub invariant-loop-row : goal.invariant-loop-row
invariant-loop-row l = l.findings.items ≡ l.initial.findings.items ++ flat_map (λ row. head_at l.has_login row.pattern row.groups) (map (λ row. row.now) (take l.row-index l.rows))
