use Rattle.std.proofs.Common.{◌≡◌, ◌<◌, ◌-◌, ℕ, false, length}
use Rattle.sv_connection.specs.Pieces as spec
use Rattle.sv_connection.proofs.pieces.piece_len.Given as goal

abbrev pub invariant-loop-at : goal.invariant-loop-at
invariant-loop-at l = (place : ℕ) → place < l.at → spec.ends_empty_line l.bytes place ≡ false

abbrev pub decreases-loop-at : goal.decreases-loop-at
decreases-loop-at l = length l.bytes - l.at
