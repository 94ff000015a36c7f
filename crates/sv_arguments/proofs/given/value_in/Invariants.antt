use Rattle.std.proofs.Common.{length, map, string_bytes}
use Rattle.sv_arguments.proofs.Walking.{IsWalked}
use Rattle.sv_arguments.proofs.given.value_in.Given as goal

abbrev pub invariant-loop-word : goal.invariant-loop-word
invariant-loop-word l = IsWalked l.set l.key (map string_bytes l.words) (map string_bytes l.rest)

abbrev pub decreases-loop-word : goal.decreases-loop-word
decreases-loop-word l = length l.rest
