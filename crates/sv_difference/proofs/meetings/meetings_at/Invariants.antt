use Rattle.std.proofs.Common.{◌≡◌, [], take}
use Rattle.std.specs.Prelude.{fold}
use Rattle.sv_difference.specs.Differences as spec
use Rattle.sv_difference.proofs.meetings.meetings_at.Given as goal

abbrev pub invariant-loop-path : goal.invariant-loop-path
invariant-loop-path l = l.meetings.items ≡ fold (spec.met l.before l.after) [] (take l.path-index l.paths)
