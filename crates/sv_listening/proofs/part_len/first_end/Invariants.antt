use Rattle.std.proofs.Common.{◌≡◌, ◌<◌, ℕ, false}
use Rattle.sv_connection.specs.Pieces as spec
use Rattle.sv_listening.proofs.part_len.first_end.Given as goal

abbrev pub invariant-loop-place : goal.invariant-loop-place
invariant-loop-place l = (place : ℕ) → place < l.place → spec.ends_empty_line l.bytes place ≡ false
