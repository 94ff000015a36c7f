use Rattle.std.proofs.Common.{◌≡◌, take}
use Rattle.std.specs.Prelude.{filter}
use Rattle.sv_difference.specs.ShownPaths as spec
use Rattle.sv_difference.proofs.shown_paths.only_shown.Given as goal

abbrev pub invariant-loop-path : goal.invariant-loop-path
invariant-loop-path l = l.shown.items ≡ filter (spec.is_shown l.before.0 l.after.0 l.before.1) (take l.path-index l.paths)
