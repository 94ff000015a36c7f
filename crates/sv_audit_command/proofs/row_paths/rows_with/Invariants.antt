use Rattle.std.proofs.Common.{◌≡◌, ◌++◌, map}
use Rattle.std.specs.Vec.Iter.{into_iter_items}
use Rattle.sv_audit_command.specs.RowPaths.{reported_row}
use Rattle.sv_audit_command.proofs.row_paths.rows_with.Given as goal

abbrev pub invariant-loop-row : goal.invariant-loop-row
invariant-loop-row l = (l.reported.items ≡ map (reported_row l.patterns l.answered (map (λ other. other.now) l.others) l.place.reaches l.place.listed l.place.nested.now) l.yielded) × (l.yielded ++ into_iter_items l.row-iterator ≡ l.fn.rows)
