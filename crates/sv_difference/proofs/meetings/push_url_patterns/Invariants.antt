use Rattle.std.proofs.Common.{◌≡◌, ◌++◌, take}
use Rattle.sv_difference.specs.Differences as spec
use Rattle.sv_difference.proofs.meetings.push_url_patterns.Given as goal

abbrev pub invariant-loop-row : goal.invariant-loop-row
invariant-loop-row l = l.patterns.items ≡ l.initial.patterns.items ++ spec.url_patterns (take l.row-index l.rows)
