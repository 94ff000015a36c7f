use Rattle.std.proofs.Common.{◌≤◌, length, map, string_bytes}
use Rattle.sv_arguments.proofs.Going.{IsReached}
use Rattle.sv_arguments.proofs.given.Given.parse.Given as goal

abbrev pub invariant-loop-word : goal.invariant-loop-word
invariant-loop-word l = IsReached l.set (map string_bytes l.words) (map string_bytes l.rest) × (length l.rest ≤ length l.words)

abbrev pub decreases-loop-word : goal.decreases-loop-word
decreases-loop-word l = length l.rest
