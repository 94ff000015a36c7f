use Rattle.std.proofs.Common.{◌≡◌, take}
use Rattle.std.specs.Prelude.{filter}
use Rattle.sv_mapping.specs.Segments.{is_slashed}
use Rattle.sv_audit.specs.Representatives as spec
use Rattle.sv_audit.proofs.representatives.slashed_paths.Given as goal

abbrev pub invariant-loop-directory : goal.invariant-loop-directory
invariant-loop-directory l = l.paths.items ≡ filter is_slashed (spec.free_paths l.avoided.items l.endings.items (take l.directory-index l.directory-items))
