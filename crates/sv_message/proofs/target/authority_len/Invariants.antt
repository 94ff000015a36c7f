use Rattle.std.proofs.Common.{◌≡◌, ℕ, ◌<◌, false, get_or}
use Rattle.sv_message.specs.TargetForm.{is_behind_authority}
use Rattle.sv_message.proofs.target.authority_len.Given as goal

abbrev pub invariant-loop-i : goal.invariant-loop-i
invariant-loop-i l = (k : ℕ) → k < l.i → is_behind_authority (get_or l.behind k 0) ≡ false
