use Rattle.std.proofs.Common.{◌≡◌, ◌++◌, take}
use Rattle.std.specs.Prelude.{filter}
use Rattle.sv_audit.specs.Shapes.{has_empty_folder}
use Rattle.sv_audit.proofs.representatives.push_with_empty.Given as goal

abbrev pub invariant-loop-path : goal.invariant-loop-path
invariant-loop-path l = l.paths.items ≡ l.initial.paths.items ++ filter has_empty_folder (take l.path-index l.texts)
