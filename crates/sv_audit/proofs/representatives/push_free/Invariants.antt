use Rattle.std.proofs.Common.{◌≡◌, ◌++◌, map, take}
use Rattle.std.specs.Prelude.{filter}
use Rattle.sv_mapping.specs.Segments.{is_slashed}
use Rattle.sv_audit.specs.Representatives as spec
use Rattle.sv_audit.proofs.representatives.push_free.Given as goal

abbrev pub invariant-loop-ending : goal.invariant-loop-ending
invariant-loop-ending l = l.paths.items ≡ l.initial.paths.items ++ filter is_slashed (map (spec.free_path l.named l.directory) (take l.ending-index l.endings))
