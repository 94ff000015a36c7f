use Rattle.std.proofs.Common.{◌≡◌, drop, map}
use Rattle.sv_findings.specs.Readings.{first_restricting}
use Rattle.sv_findings.proofs.readings.first_restricting.Given as goal

abbrev pub invariant-loop-row : goal.invariant-loop-row
invariant-loop-row l = first_restricting (map (λ row. row.now) l.rows) l.methods ≡ first_restricting (map (λ row. row.now) (drop l.row-index l.rows)) l.methods
