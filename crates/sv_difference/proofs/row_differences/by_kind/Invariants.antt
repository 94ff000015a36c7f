use Rattle.std.proofs.Common.{◌≡◌, ◌++◌}
use Rattle.std.specs.Vec.Iter.{into_iter_items}
use Rattle.sv_difference.specs.Differences.{of_kind}
use Rattle.sv_audit.specs.declared.visitors.DifferenceKind.TheVariants.{Changed, Closed, Opened}
use Rattle.sv_difference.proofs.row_differences.by_kind.Given as goal

abbrev pub invariant-loop-difference : goal.invariant-loop-difference
invariant-loop-difference l =
    (l.opened.items ≡ of_kind Opened l.yielded) × (l.closed.items ≡ of_kind Closed l.yielded) × (l.changed.items ≡ of_kind Changed l.yielded) × (l.yielded ++ into_iter_items l.difference-iterator ≡ l.fn.found.items)
