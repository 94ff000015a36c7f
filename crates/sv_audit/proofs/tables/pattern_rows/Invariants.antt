use Rattle.std.proofs.Common.{◌≡◌, map, take}
use Rattle.sv_audit.specs.Access.{asking}
use Rattle.sv_audit.specs.Rows.{row_for}
use Rattle.sv_audit.proofs.tables.pattern_rows.Given as goal

abbrev pub invariant-loop-pattern : goal.invariant-loop-pattern
invariant-loop-pattern l = l.rows.items ≡ map (row_for (asking l.fn.whose) l.constraints l.rules) (map (λ pattern. pattern.now) (take l.pattern-index l.patterns))
