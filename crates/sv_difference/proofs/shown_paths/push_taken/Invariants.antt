use Rattle.std.proofs.Common.{◌≡◌, ◌++◌, take}
use Rattle.sv_difference.specs.ShownPaths as spec
use Rattle.sv_difference.proofs.shown_paths.push_taken.Given as goal

abbrev pub invariant-loop-other : goal.invariant-loop-other
invariant-loop-other l = l.taken.items ≡ l.initial.taken.items ++ spec.taken_by (take l.other-index l.contexts) l.context
