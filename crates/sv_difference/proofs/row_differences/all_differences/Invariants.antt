use Rattle.std.proofs.Common.{◌≡◌, take}
use Rattle.std.specs.List.{flat_map}
use Rattle.sv_difference.specs.Differences as spec
use Rattle.sv_difference.proofs.row_differences.all_differences.Given as goal

abbrev pub invariant-loop-meeting : goal.invariant-loop-meeting
invariant-loop-meeting l = l.found.items ≡ flat_map (spec.differences_at (spec.logins_of l.before l.after) l.before.table.rows l.after.table.rows) (take l.meeting-index l.meeting-items)
