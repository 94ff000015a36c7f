use Rattle.std.proofs.Common.{◌≤◌, length}
use Rattle.sv_saved_sessions.proofs.writing.count_of.Given as goal

abbrev pub invariant-loop-count : goal.invariant-loop-count
invariant-loop-count l = l.count ≤ length l.users
