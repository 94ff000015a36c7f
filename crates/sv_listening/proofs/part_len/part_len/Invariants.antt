use Rattle.std.proofs.Common.{◌≡◌, ◌<◌, ◌≤◌, ℕ, true, get_or}
use Rattle.sv_listening.specs.Parts.{is_line_end}
use Rattle.sv_listening.proofs.part_len.part_len.Given as goal

abbrev pub invariant-loop-place : goal.invariant-loop-place
invariant-loop-place l = (later : ℕ) → l.first ≤ later → later < l.place → is_line_end (get_or l.bytes later 0) ≡ true
