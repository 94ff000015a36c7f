use Rattle.std.proofs.Common.{◌≡◌, ◌++◌, take}
use Rattle.std.specs.Prelude.{filter}
use Rattle.sv_mapping.specs.Segments.{is_slashed}
use Rattle.sv_audit.proofs.representatives.push_slashed.Given as goal

abbrev pub invariant-loop-path : goal.invariant-loop-path
invariant-loop-path l = l.paths.items ≡ l.initial.paths.items ++ filter is_slashed (take l.path-index l.texts)
