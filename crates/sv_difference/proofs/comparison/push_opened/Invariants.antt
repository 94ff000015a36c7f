use Rattle.std.proofs.Common.{◌≡◌, ◌++◌, map, take}
use Rattle.sv_difference.specs.Differences.{of_kind}
use Rattle.sv_audit.specs.declared.visitors.DifferenceKind.TheVariants.{Opened}
use Rattle.sv_difference.proofs.comparison.push_opened.Given as goal

abbrev pub invariant-loop-difference : goal.invariant-loop-difference
invariant-loop-difference l =
    map (λ difference. difference.now) l.opened.items ≡ map (λ difference. difference.now) l.initial.opened.items ++ of_kind Opened (take l.difference-index l.differences)
