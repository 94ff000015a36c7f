use Rattle.std.proofs.Common.{◌≡◌, ℕ, ◌<◌, false, take}
use Rattle.sv_text.proofs.front.front_len.Given as goal

abbrev pub invariant-loop-len : goal.invariant-loop-len
invariant-loop-len g l = (k : ℕ) → k < l.len → g.D.Delimited.ends l.kind (take k l.text) ≡ false
